pub mod Branches
pub mod Answers
pub mod Shown
pub mod Text
