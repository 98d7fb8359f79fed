pub mod Packed
pub mod TimesAlpha
pub mod ThreeWords
pub mod Multiples
pub mod Division
pub mod Tables
pub mod Reversal
