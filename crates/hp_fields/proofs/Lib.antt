pub mod Pointers
pub mod Constants
pub mod Stays
pub mod Applies
pub mod Fits
pub mod Complete
pub mod Tables
