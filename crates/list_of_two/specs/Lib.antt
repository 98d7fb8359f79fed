pub mod Ways
pub mod Hard
