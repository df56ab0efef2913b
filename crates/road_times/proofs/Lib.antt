pub mod Common
pub mod Searches
pub mod Lists
pub mod Relaxing
pub mod Places
pub mod Turning
pub mod Unpacking
