pub mod Common
pub mod Lists
pub mod Views
pub mod Entering
pub mod Leaving
pub mod Joining
