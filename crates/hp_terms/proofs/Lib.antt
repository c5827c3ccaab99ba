pub mod Whole
pub mod Values
pub mod Agreeing
pub mod Wider
pub mod Parts
pub mod Weights
pub mod Words
