pub mod Flattening
pub mod Making
pub mod Onces
pub mod Outputting
pub mod Patterns
pub mod Sums
