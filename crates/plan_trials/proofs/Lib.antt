pub mod SmallPlans
pub mod OneRide
pub mod LineRoad
pub mod NearPlaces
pub mod NearInLine
pub mod DrawnPlans
