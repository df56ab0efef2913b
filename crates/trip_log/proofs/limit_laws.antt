pub mod Sizes
pub mod FedLines
pub mod BatchLines
pub mod Tallies
pub mod FedCommands
pub mod Texts
pub mod TextLines
pub mod FeedCommands
