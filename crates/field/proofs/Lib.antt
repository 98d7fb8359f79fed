pub mod Pigeonhole
pub mod Ring
pub mod Powers
pub mod Digits
pub mod Short
