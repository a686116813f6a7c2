pub mod BrokenParts
pub mod Bounds
pub mod CircuitSteps
pub mod Laters
pub mod NbcSearch
pub mod RowSteps
