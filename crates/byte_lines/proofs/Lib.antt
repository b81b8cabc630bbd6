pub mod Content
pub mod Decoding
pub mod Splitting
pub mod Finding
pub mod Giving
