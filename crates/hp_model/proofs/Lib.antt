pub mod Universal
pub mod Fits
pub mod Sorted
