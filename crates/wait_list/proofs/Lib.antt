pub mod Common
pub mod Rising
pub mod Walk
pub mod Placed
pub mod Waits
