pub mod Applications
pub mod Flattening
pub mod Laws
pub mod Sorts
