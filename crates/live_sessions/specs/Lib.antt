pub mod Serving
pub mod Resuming
pub mod inner
