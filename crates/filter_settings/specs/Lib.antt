pub mod Settings
pub mod Readers
pub mod Options
pub mod Pieces
pub mod Trying
pub mod Convert
pub mod Paths
