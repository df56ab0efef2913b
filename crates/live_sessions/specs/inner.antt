pub mod Serving
pub mod Resuming
pub mod Actors
pub mod Stages
