pub mod Tables
pub mod Trips
pub mod SlackOf
pub mod Search
pub mod Offered
