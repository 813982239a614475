-- What the proofs of naming share, and what those who walk over names need.
pub mod Said
pub mod Runs
pub mod Fronts
pub mod Alike
pub mod Walks
pub mod AllSections
pub mod KeysApart
pub mod KeyPlaces
pub mod CountedKeys
pub mod PhraseNames
pub mod Sought
pub mod Laid
