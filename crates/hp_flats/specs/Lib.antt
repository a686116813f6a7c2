pub mod Bounds
pub mod Covers
pub mod Levels
pub mod Matrices
