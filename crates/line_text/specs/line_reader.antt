pub mod Limits
pub mod Reader
pub mod FeedRuns
