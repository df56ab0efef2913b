pub mod Statuses
pub mod Handing
pub mod Readings
pub mod Sources
