pub mod Certified
pub mod PlainLegal
pub mod PlainKept
