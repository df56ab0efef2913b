pub mod Stops
pub mod Loops
pub mod Making
