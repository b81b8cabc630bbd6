pub mod NameParts
pub mod Together
pub mod LettersFound
pub mod Opened
