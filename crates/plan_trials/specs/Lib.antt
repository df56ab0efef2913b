pub mod SmallPlans
pub mod OneRide
pub mod LineRoad
pub mod NearPlaces
pub mod NearInLine
pub mod worked_rows
pub mod trial_town
pub mod roads
