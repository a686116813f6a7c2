pub mod ExactComplexes
pub mod MatrixProducts
