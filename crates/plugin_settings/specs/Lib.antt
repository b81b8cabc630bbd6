pub mod Numbers
pub mod Codecs
pub mod Common
pub mod Inputs
pub mod Outputs
pub mod Read
