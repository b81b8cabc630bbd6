pub mod Growth
pub mod Causes
pub mod Moments
pub mod Beside
pub mod Tearing
pub mod Leaving
pub mod TailImages
pub mod TailRuns
pub mod BesideRuns
pub mod SlotRuns
-- the lemmas that it hands on: how calls compose
pub mod Looking
pub mod TornFrames
