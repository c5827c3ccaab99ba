pub mod Rising
pub mod Truth
pub mod Numbering
pub mod Farkas
pub mod Addition
pub mod Located
pub mod Lookup
