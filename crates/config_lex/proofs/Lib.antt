pub mod Scans
pub mod Lexing
mod Gaps
mod Writing
mod NumberFronts
mod Laying
mod Numerals
