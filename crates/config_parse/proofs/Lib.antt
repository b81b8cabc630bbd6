pub mod Reading
pub mod Turns
mod Joined
mod Placing
mod Telling
pub mod Trees
pub mod Takes
pub mod Taken
pub mod Exact
pub mod Levels
pub mod Deep
pub mod One
mod Branches
