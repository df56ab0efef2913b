pub mod Common
pub mod Legs
pub mod AboardLists
pub mod InsertedLegs
pub mod RemovedLegs
pub mod Marked
