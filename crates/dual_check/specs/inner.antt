pub mod Stored
pub mod Parts
pub mod Orders
pub mod Costs
