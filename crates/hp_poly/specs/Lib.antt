pub mod Degrees
pub mod Factors
pub mod PolyDomain
pub mod PolyRing
pub mod PolySetting
pub mod Polynomials
pub mod Substitutions
