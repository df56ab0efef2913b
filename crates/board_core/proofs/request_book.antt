pub mod Entries
pub mod Places
pub mod Taken
pub mod Changes
