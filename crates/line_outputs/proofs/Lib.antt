mod Results
mod Finding
pub mod Keeping
mod Opening
mod Delivering
mod Apart
mod Unwritten
mod Rejecting
