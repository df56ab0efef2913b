pub mod Common
pub mod Members
pub mod Steps
pub mod Kept
pub mod Views
pub mod Walks
