-- What the contracts of form cite besides the rules.
pub mod Order
pub mod Keys
pub mod Machine
pub mod Promises
