pub mod Value
pub mod Sorted
pub mod Sides
pub mod Universal
pub mod Limits
