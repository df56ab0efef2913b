pub mod SessionState
pub mod Writing
pub mod Running
pub mod Planning
pub mod Reading
pub mod Telling
pub mod Drills
