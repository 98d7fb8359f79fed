pub mod Weights
pub mod Ways
pub mod Lists
