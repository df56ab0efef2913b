pub mod Roads
pub mod Vehicles
pub mod Runs
pub mod PlainPath
pub mod Greedy
pub mod Stale
