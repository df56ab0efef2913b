pub mod Common
pub mod FirstWord
pub mod OptionValues
pub mod WordValues
