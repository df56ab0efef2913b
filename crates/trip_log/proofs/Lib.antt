pub mod Common
pub mod PrintsLemmas
pub mod LineLemmas
pub mod CutLemmas
pub mod SolidLemmas
mod ItemLemmas
pub mod ReadLemmas
pub mod TextLemmas
mod CompareLemmas
mod HeadLemmas
mod SpelledLemmas
