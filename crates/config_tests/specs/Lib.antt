pub mod Examples
pub mod Marks
pub mod OpenLevels
pub mod Outcomes
pub mod Written
