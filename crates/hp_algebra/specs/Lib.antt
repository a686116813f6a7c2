pub mod Integers
pub mod Modules
pub mod Ring
pub mod Rows
