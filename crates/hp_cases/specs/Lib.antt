pub mod Bounds
pub mod Cases
