pub mod Echelon
pub mod GrowingForms
pub mod Matrices
pub mod Spaces
