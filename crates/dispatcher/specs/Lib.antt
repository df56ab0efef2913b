pub mod Shelves
pub mod Meanings
pub mod Works
pub mod Verdicts
pub mod Runs
pub mod Mission
pub mod inner
