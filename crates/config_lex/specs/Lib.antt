pub mod Bytes
pub mod Lexemes
pub mod Spelling
pub mod Laws
