pub mod Formats
pub mod Dates
