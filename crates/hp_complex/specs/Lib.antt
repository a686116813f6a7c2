pub mod Complexes
