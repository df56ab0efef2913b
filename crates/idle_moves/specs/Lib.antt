pub mod Sheet
pub mod AheadText
pub mod HistorySheets
pub mod inner
