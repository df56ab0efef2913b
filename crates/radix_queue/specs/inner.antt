pub mod Queue
pub mod Buckets
