pub mod FourBits
pub mod Known
