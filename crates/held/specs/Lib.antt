pub mod Entry
pub mod State
