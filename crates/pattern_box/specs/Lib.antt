pub mod Patterns
pub mod Matchers
pub mod Spans
pub mod Texts
pub mod Replacements
