pub mod Values
pub mod Order
pub mod Trellis
pub mod Demand
pub mod Keys
pub mod TwoWords
pub mod Bounded
