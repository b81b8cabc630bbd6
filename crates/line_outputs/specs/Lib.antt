pub mod OpenFiles
pub mod NewLetters
pub mod Readiness
pub mod BoxTables
