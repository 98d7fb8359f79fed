pub mod KeyOrder
pub mod Sums
pub mod Ranks
pub mod KeyWays
pub mod Outs
