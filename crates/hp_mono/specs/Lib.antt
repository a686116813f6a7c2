pub mod Digits
pub mod Monomials
pub mod TermOrders
