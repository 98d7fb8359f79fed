pub mod Testing
pub mod Widths
pub mod GoesOn
