pub mod Listed
pub mod Check
pub mod Block
pub mod Parts
pub mod Dump
pub mod Accepted
