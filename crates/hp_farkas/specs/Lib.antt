pub mod Form
pub mod Names
pub mod Sums
pub mod Check
pub mod inner
