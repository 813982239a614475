-- What the contracts of advice cite besides the rules.
pub mod Positions
pub mod CountedLines
pub mod Sentences
