pub mod Telling
pub mod Counts
pub mod Pieces
pub mod Folders
pub mod Reads
pub mod Answers
pub mod Connections
pub mod Images
pub mod Times
pub mod Calls
pub mod Chance
pub mod Moments
pub mod Steps
pub mod Leftovers
pub mod Tails
-- what it hands on
pub mod Faults
