pub mod BlockByBlock
pub mod BlockFaults
pub mod DumpAnswers
