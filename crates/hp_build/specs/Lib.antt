pub mod Families
pub mod Faults
pub mod Graphs
