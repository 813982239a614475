-- Laws of the C interface.
pub mod Handing
pub mod Promises
