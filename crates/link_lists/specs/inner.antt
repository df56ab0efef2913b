pub mod Family
pub mod Circles
