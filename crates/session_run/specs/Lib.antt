pub mod Settled
pub mod Replay
pub mod Logged
pub mod Running
pub mod Ahead
pub mod Drills
pub mod inner
