pub mod Rising
pub mod Names
pub mod Least
pub mod Exact
pub mod Products
pub mod Loops
pub mod Verdict
