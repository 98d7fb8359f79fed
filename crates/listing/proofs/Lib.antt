pub mod Appended
pub mod Decimal
pub mod Hex
pub mod Lengths
pub mod Lines
