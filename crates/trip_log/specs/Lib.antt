pub mod Prints
pub mod inner
