pub mod Waiting
pub mod Split
