pub mod Freeness
