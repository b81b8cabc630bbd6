pub mod PartsLemmas
pub mod Statuses
pub mod Answering
pub mod Starting
pub mod TextLemmas
pub mod CheckLemmas
pub mod Asking
pub mod Ending
pub mod ServingLemmas
pub mod TopLemmas
pub mod Outside
pub mod Running
mod Compiled
pub mod FaultCauses
