pub mod Sharing
pub mod Roles
pub mod inner
