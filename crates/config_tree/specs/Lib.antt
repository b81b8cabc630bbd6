pub mod Joining
pub mod Joints
pub mod Readers
