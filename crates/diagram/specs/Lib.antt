-- What the contracts of diagram cite besides the rules: first the promises of the calls, then what their rooms say.
pub mod Promises
pub mod Answers
pub mod Slices
pub mod Lent
pub mod Listing
