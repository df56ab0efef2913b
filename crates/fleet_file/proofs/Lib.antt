pub mod Common
mod SettingLemmas
mod FleetLemmas
mod NamedLemmas
mod ReadLemmas
mod LawfulFleets
