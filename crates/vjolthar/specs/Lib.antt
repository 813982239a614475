-- What the numbers and slices of the C interface say, in reading order.
pub mod Verdicts
pub mod Handed
