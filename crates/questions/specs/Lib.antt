pub mod Questions
pub mod Number
pub mod Answer
