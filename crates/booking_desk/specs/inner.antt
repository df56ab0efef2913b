pub mod Desk
pub mod Kept
pub mod Released
pub mod Steps
pub mod Releases
pub mod Asked
pub mod BookText
pub mod FeedDesk
