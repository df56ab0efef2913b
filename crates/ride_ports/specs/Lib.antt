pub mod Bytes
pub mod Contents
pub mod Count
pub mod Status
pub mod inner
