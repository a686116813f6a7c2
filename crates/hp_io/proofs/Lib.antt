pub mod Takings
pub mod Givings
pub mod Faults
mod Kept
