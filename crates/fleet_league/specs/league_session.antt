pub mod Feed
pub mod LeagueTexts
pub mod RoundParts
pub mod League
pub mod Leagued
