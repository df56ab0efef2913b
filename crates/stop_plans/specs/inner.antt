pub mod Change
pub mod Aboard
pub mod Legged
pub mod First
