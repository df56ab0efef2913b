pub mod Start
pub mod Consistent
pub mod Closing
pub mod Finishing
