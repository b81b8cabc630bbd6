pub mod Scans
pub mod Pieces
pub mod Drafts
pub mod Expansions
