pub mod Loop
pub mod Lines
pub mod Judged
