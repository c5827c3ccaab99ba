pub mod Mentions
pub mod Finding
pub mod Values
