pub mod EdgeForms
pub mod Entries
pub mod FamilyForms
pub mod ListedPairs
pub mod Proportional
pub mod Simple
pub mod SmallFields
