pub mod Arrangement
pub mod Circuits
pub mod Flats
pub mod FormFaults
pub mod Moebius
pub mod Operations
pub mod PointSearch
