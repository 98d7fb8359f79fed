pub mod Pages
pub mod BothDecoders
pub mod WrittenPages
pub mod Reports
pub mod Committing
pub mod CleanPages
