pub mod Statements
pub mod StepMeaning
pub mod Layings
pub mod Blocks
pub mod Batches
pub mod Cells
pub mod Configurations
