-- Laws of added bytes. Assumes nothing.
pub mod Adding
