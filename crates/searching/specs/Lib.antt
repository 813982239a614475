-- What the contracts of searching cite besides the rules.
pub mod Serving
pub mod Prices
pub mod Searching
