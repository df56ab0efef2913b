pub mod Feed
pub mod RoundParts
pub mod League
pub mod LeagueBoards
pub mod LeagueRuns
