pub mod Rooms
pub mod Parts
pub mod Batches
pub mod Readiness
pub mod Jobs
pub mod Causes
pub mod Openings
pub mod Deliveries
