pub mod Limits
pub mod Road
pub mod Vehicle
pub mod Seating
pub mod History
