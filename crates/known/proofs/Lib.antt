pub mod FourBits
pub mod Proved
