pub mod Common
pub mod Networks
