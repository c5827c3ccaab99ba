pub mod Stepping
pub mod Tuples
