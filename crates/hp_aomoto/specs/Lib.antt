pub mod AomotoCohomology
pub mod ProductMatrices
