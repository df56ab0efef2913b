pub mod history_laws
pub mod inner
