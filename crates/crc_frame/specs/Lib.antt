pub mod Bytes
pub mod Crc
pub mod Frames
pub mod Slots
pub mod Fronts
pub mod Gives
