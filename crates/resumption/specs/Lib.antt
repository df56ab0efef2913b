pub mod Logs
pub mod Goings
pub mod Resumptions
pub mod Mission
pub mod inner
