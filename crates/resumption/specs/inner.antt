pub mod Logs
pub mod Goings
pub mod Steps
