pub mod Adding
pub mod Carrying
pub mod Keeping
pub mod Looks
pub mod Rows
pub mod Stances
