pub mod CentralFlats
pub mod ExpressionElements
pub mod ExpressionValues
pub mod Forms
pub mod GeneratorRefusals
pub mod KeptResolutions
pub mod Lookups
pub mod Tables
mod MultiplicityBounds
mod DerivationLimits
pub mod Zips
