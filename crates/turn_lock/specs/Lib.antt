pub mod Knowledge
pub mod Passes
pub mod inner
