pub mod Meetings
pub mod Loads
pub mod Counts
pub mod Kits
pub mod KitParts
pub mod Passages
pub mod Graphs
pub mod Walks
