pub mod Answering
pub mod Working
pub mod Naming
pub mod Passing
pub mod Leaving
pub mod Hearing
pub mod Opened
