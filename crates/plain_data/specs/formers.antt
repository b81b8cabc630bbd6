pub mod boxed
pub mod fields
pub mod items
