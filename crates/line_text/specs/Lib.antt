pub mod Lines
pub mod Numbers
pub mod Fields
pub mod Texts
pub mod line_reader
pub mod inner
