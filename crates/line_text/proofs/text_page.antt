pub mod OutputLemmas
pub mod PrintedPages
