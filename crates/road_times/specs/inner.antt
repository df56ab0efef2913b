pub mod Room
pub mod Turned
pub mod Adjacency
pub mod Search
pub mod Sorting
pub mod Stored
