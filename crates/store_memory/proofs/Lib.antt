pub mod Stepping
pub mod Choosing
