pub mod Progress
pub mod Outcomes
pub mod Lent
