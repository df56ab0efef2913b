pub mod Pieces
pub mod Prints
pub mod Compares
pub mod Cuts
pub mod Heads
pub mod Items
pub mod Reads
pub mod limit_laws
