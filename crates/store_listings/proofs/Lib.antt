pub mod Questions
pub mod Sequences
