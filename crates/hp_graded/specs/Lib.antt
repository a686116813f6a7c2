pub mod EssentialRows
pub mod MinimalGenerators
pub mod RelationConstants
