pub mod Sooner
pub mod Requests
pub mod history_laws
