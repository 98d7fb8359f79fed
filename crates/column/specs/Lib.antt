pub mod Tabulated
pub mod Shape
pub mod Level
pub mod Trellis
pub mod Mask
pub mod Roots
