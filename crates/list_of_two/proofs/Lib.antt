pub mod TwoRuns
pub mod Reading
pub mod Checked
pub mod ShortTwo
