pub mod Common
pub mod ByteLemmas
pub mod CountLemmas
pub mod Counts
pub mod ShelfLemmas
pub mod FileLemmas
