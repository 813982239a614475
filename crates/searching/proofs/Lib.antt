-- The laws that the proofs of searching share.
pub mod Prices
pub mod Serving
pub mod Servables
pub mod Firsts
pub mod Tried
pub mod Tasks
pub mod Trying
pub mod Nexts
pub mod BestLists
pub mod WholeSearch
