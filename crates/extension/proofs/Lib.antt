pub mod NextBit
pub mod Growing
pub mod Folded
pub mod Advances
