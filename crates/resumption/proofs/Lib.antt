pub mod Common
pub mod LogFaults
pub mod AnsweredFeeds
pub mod MayResume
pub mod Endings
pub mod Resuming
pub mod Keeping
