pub mod Parts
pub mod Values
pub mod Reading
pub mod Behind
pub mod Faults
pub mod Gives
pub mod Adds
pub mod RowBodies
