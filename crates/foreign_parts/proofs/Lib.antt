pub mod Places
pub mod Numbers
pub mod Keeping
pub mod Linking
