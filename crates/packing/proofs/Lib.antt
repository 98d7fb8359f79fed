pub mod Groups
pub mod Masked
pub mod Put
pub mod Signed
