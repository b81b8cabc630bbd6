pub mod Clone
pub mod Split
pub mod Drops
