pub mod Made
pub mod Seen
pub mod Selections
pub mod Batch
pub mod contraction
pub mod hierarchy_laws
pub mod road_hierarchy
