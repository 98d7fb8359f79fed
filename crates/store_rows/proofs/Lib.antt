pub mod RowRanges
