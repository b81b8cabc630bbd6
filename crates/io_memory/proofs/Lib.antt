pub mod Changes
pub mod PartLemmas
pub mod Taking
mod Pieces
mod Linked
