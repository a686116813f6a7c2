pub mod Partial
pub mod Triples
