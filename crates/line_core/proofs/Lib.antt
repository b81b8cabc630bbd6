pub mod JobsHome
pub mod InputsTogether
pub mod AssuredInputs
pub mod EachOf
pub mod BoxesStay
pub mod Delivered
pub mod LineStays
mod PositionNames
mod InputsOpened
mod PlanTargets
mod LineOpened
mod ShortIds
pub mod BatchesStay
