pub mod Split
pub mod Text
pub mod Lines
pub mod Unread
