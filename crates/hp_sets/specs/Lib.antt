pub mod BitLaws
pub mod Bits
pub mod ListedOrder
pub mod Sets
