pub mod Arrivals
