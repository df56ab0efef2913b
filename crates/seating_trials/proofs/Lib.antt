pub mod OneCell
pub mod TwoRequests
pub mod InTurn
