pub mod Blanks
pub mod Bare
pub mod Digits
pub mod Boundaries
pub mod Finding
pub mod Stepping
pub mod Turns
