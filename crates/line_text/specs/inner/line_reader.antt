pub mod Reader
pub mod FeedRuns
