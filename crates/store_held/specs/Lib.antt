pub mod Names
pub mod Calls
pub mod Stories
