pub mod Asked
pub mod Joined
pub mod Arrivals
pub mod Drawn
pub mod Least
pub mod Rooms
