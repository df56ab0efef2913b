pub mod Words
pub mod Resumptions
pub mod inner
