pub mod Options
pub mod Numbers
pub mod Among
pub mod Each
pub mod Filters
pub mod Sums
pub mod Lists
