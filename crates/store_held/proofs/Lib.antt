pub mod Entries
pub mod Calls
pub mod Stories
pub mod Demand
