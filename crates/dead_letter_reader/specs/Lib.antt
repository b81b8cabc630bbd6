pub mod Names
pub mod Marks
pub mod Places
pub mod Parcels
pub mod Work
pub mod Steps
pub mod Ready
pub mod Opening
