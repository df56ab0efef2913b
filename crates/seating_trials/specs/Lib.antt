pub mod InTurn
pub mod OneRequest
pub mod TwoRequests
