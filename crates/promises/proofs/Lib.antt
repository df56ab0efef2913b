pub mod Common
pub mod Visits
