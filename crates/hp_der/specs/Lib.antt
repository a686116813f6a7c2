pub mod BasisSettings
pub mod CarriedBases
pub mod CoveringPairs
pub mod DerivationModules
pub mod EssentialGenerators
