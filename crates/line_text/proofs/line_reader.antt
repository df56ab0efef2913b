pub mod LineParts
pub mod Ranges
pub mod FeedLines
