pub mod Outcomes
pub mod Questions
