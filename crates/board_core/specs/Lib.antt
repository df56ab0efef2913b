pub mod Recorded
pub mod Totals
pub mod inner
