pub mod Streets
