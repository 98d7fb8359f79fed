pub mod Heap
pub mod Moves
pub mod Holds
