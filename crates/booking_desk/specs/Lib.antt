pub mod Desk
pub mod Released
pub mod BookLines
pub mod BookText
pub mod Booked
pub mod inner
