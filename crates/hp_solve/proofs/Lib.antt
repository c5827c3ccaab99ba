pub mod Grounded
pub mod Sorts
pub mod Splits
pub mod Scope
pub mod Verdicts
