pub mod Adapters
pub mod Links
