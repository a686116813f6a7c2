pub mod AcceptedCommands
pub mod SampleCommands
