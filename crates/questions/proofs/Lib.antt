pub mod FirstAbove
pub mod AllInRange
pub mod Filled
pub mod Answered
pub mod EitherWay
