pub mod Makes
pub mod Flats
pub mod Conditions
pub mod Each
pub mod Numbering
pub mod Counts
