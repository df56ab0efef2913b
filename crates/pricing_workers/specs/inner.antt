pub mod Cells
pub mod Pairs
pub mod Rows
pub mod Seats
pub mod Wanted
