pub mod Adding
mod Cutting
pub mod Scanning
