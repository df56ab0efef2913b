pub mod Common
pub mod Radix
pub mod Marked
pub mod Placed
pub mod Counts
pub mod Walked
