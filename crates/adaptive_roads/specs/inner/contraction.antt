pub mod Levels
pub mod Chains
pub mod Graph
pub mod Witness
pub mod Growth
pub mod Contracted
pub mod View
