pub mod Patterns
pub mod Census
