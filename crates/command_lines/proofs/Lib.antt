pub mod Common
pub mod Spelled
pub mod Printed
pub mod LineCommands
pub mod ReaderLemmas
