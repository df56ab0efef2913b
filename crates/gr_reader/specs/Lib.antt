pub mod MapText
pub mod inner
