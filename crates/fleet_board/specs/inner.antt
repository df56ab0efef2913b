pub mod Passes
pub mod Openings
pub mod Commits
pub mod Turns
pub mod Sets
