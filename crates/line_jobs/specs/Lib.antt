pub mod Closings
pub mod Deliveries
pub mod Dues
pub mod Homes
pub mod Results
