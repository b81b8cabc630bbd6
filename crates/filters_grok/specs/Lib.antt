pub mod Searching
pub mod Settings
pub mod Grok
pub mod Matches
