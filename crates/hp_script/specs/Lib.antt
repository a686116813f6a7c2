pub mod Tokens
pub mod Grammar
pub mod Script
pub mod Lists
pub mod Cut
pub mod Reading
