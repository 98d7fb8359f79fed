pub mod Continues
pub mod Lowest
pub mod Tables
pub mod ShortSearch
