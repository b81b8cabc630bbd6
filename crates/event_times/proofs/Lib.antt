pub mod Powers
pub mod DigitSteps
pub mod MonthNames
pub mod InYears
pub mod ItemSteps
pub mod Unread
