pub mod Inverses
pub mod PrimeTests
pub mod Primes
pub mod ResidueLaws
pub mod Residues
