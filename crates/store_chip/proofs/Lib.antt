pub mod Answers
pub mod Calls
pub mod Pages
pub mod Decoders
