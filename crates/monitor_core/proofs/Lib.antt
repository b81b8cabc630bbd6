pub mod Keeping
pub mod Sums
