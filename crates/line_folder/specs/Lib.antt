pub mod FileNames
pub mod Readiness
pub mod Openings
