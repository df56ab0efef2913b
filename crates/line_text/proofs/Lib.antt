pub mod Common
pub mod LineLemmas
mod CutterLemmas
mod FieldLemmas
mod NumberLemmas
mod ReadingLemmas
pub mod TextLemmas
pub mod PrintedLemmas
pub mod NamedRefusals
pub mod LineTaking
