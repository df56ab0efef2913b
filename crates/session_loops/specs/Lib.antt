pub mod Stops
pub mod inner
