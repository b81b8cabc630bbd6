mod Reading
pub mod Folds
