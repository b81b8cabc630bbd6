pub mod Digits
pub mod Zones
pub mod Reading
pub mod Moments
pub mod Iso8601
pub mod Decoded
