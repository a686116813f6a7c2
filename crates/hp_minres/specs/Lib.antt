pub mod Grids
pub mod Minimised
pub mod Reductions
