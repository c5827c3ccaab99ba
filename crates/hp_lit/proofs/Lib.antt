pub mod Paths
pub mod Farkas
pub mod Cycles
pub mod Words
pub mod Growing
