pub mod Descent
pub mod Steps
