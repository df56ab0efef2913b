pub mod ThreeVehicles
