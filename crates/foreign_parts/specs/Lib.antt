pub mod Configuring
pub mod Delivering
pub mod Stocks
pub mod Shelves
pub mod Links
pub mod Racks
pub mod Boxes
