pub mod Limits
pub mod LogLines
pub mod Words
pub mod Audit
pub mod Audited
pub mod Restored
pub mod inner
