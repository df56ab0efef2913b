pub mod Lines
pub mod Cutter
pub mod Reading
pub mod Taking
pub mod line_reader
pub mod text_page
