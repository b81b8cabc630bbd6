pub mod Json
pub mod Targets
pub mod Kv
pub mod Csv
pub mod Rows
pub mod Readers
pub mod Pairs
pub mod Views
