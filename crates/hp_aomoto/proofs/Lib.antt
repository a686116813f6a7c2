pub mod AomotoDimensions
pub mod AomotoNumbers
pub mod FormSums
pub mod NbcCoordinates
pub mod OneForms
