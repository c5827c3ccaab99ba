pub mod Steps
pub mod Lins
pub mod Wholes
pub mod Literals
pub mod Fit
pub mod Values
pub mod Laws
pub mod Answers
