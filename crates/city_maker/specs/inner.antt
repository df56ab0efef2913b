pub mod Plan
pub mod Feed
pub mod Cities
pub mod Steps
pub mod Growth
pub mod Reports
