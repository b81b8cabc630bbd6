mod Sending
pub mod SenderPlaces
mod Delivering
mod Giving
mod InTurn
mod Taking
