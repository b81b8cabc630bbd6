pub mod Grouping
pub mod Wanted
pub mod Taking
pub mod Rowing
pub mod Whole
pub mod CutChars
mod Missing
mod Pieces
