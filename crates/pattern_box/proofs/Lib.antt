mod Found
mod TextParts
mod Room
mod Searching
mod Grouped
mod Replaced
mod Refused
pub mod Written
