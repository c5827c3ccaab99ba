pub mod Forms
pub mod Literals
pub mod Pointers
pub mod Values
pub mod Fit
pub mod Laws
pub mod Answers
