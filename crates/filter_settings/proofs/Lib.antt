pub mod Setting
pub mod Cuts
pub mod Steps
mod Commas
