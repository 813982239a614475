-- What the contracts of spelt cite.
pub mod Walks
