pub mod LogLines
pub mod OpenBatches
pub mod Seated
pub mod Auditing
pub mod Audited
pub mod Reading
pub mod Due
