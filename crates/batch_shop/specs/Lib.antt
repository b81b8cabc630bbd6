pub mod Adding
pub mod Desks
pub mod Inline
pub mod Jobs
pub mod Rule
pub mod Sides
pub mod Started
