pub mod Sum
pub mod Product
pub mod Remainder
pub mod Coprime
