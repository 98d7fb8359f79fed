pub mod RowEncoding
pub mod PageOutcomes
