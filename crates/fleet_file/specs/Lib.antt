pub mod FleetText
pub mod inner
