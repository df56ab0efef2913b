pub mod IdleVehicle
pub mod TwoOfEach
