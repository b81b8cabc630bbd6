pub mod Texts
pub mod Gsub
pub mod Operations
pub mod Settings
