pub mod Patterns
pub mod Counting
pub mod Endings
pub mod Behind
pub mod Census
