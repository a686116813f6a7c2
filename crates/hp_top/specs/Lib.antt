pub mod Course
pub mod Ends
pub mod Run
pub mod Status
pub mod Summary
pub mod Tallies
pub mod Text
