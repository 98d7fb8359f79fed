pub mod Calls
pub mod ListCalls
