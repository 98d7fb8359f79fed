pub mod Insertion
pub mod Placed
pub mod Growth
pub mod Loop
pub mod ShortSearch
