mod Dot
mod Positive
mod Lines
pub mod Clearing
mod Start
mod Contradiction
pub mod Number
mod Point
pub mod Exact
mod Refute
mod Moves
mod Chains
mod Steps
mod Sums
