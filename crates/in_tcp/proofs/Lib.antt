pub mod Among
pub mod Laying
pub mod Moving
pub mod Holding
pub mod Turns
pub mod Asking
pub mod Taking
pub mod Standing
pub mod Polled
pub mod Giving
pub mod Placed
mod Searching
