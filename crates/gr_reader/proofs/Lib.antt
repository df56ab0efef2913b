pub mod Common
mod MapLemmas
mod NamedLemmas
mod ReadLemmas
