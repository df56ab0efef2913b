pub mod TwoCompanies
pub mod OneVehicle
pub mod Sides
