pub mod Draws
pub mod Plan
pub mod Roads
pub mod Fleets
pub mod Feed
pub mod Steps
pub mod inner
