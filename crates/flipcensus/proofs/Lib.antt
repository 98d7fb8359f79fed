pub mod FirstLine
pub mod Lengths
