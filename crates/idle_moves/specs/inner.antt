pub mod AheadText
pub mod Standby
pub mod Filling
pub mod Raises
pub mod Watch
