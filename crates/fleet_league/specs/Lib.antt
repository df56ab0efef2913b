pub mod Prices
pub mod Awards
pub mod Round
pub mod league_session
pub mod inner
