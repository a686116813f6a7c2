pub mod OrlikSolomon
pub mod Straightening
