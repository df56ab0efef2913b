pub mod Ways
pub mod Hierarchy
pub mod Labels
