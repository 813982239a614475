-- The laws that the proofs of text share.
pub mod NameTables
pub mod NamesPut
pub mod NamesBack
pub mod Tabling
pub mod Gathering
pub mod SetLines
pub mod FromPlaces
pub mod MarksLaid
pub mod Answers
pub mod Promises
