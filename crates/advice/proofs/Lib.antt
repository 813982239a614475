-- Laws of what the sentences are made of. Assumes nothing.
pub mod Before
pub mod CountedLines
pub mod Located
pub mod Opened
pub mod Promises
pub mod Wrongs
