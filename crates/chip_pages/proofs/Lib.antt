pub mod ChipColumns
