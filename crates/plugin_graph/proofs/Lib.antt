pub mod Acting
pub mod Coming
pub mod Encounters
pub mod Rereading
pub mod Tables
