pub mod Equality
pub mod Made
pub mod Sides
pub mod Texts
pub mod Truths
pub mod Values
pub mod Laws
