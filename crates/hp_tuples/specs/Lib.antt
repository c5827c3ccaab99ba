pub mod Tuples
pub mod Raised
