pub mod ClosedKits
pub mod Dues
pub mod Parting
pub mod OnceMore
