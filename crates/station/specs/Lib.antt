pub mod Returned
pub mod Report
pub mod PageReturned
pub mod CleanPages
