pub mod Finding
mod Fields
mod Matching
