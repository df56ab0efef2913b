pub mod Ways
pub mod Growing
pub mod Climbing
pub mod Sweeping
