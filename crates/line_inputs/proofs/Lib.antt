mod Recording
pub mod Together
mod Holding
mod Giving
mod Plain
mod Opened
mod Staying
