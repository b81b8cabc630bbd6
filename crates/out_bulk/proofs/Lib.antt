pub mod DayLines
pub mod Remembering
pub mod FateRuns
pub mod RequestRuns
pub mod Keeping
pub mod DeliveryRuns
