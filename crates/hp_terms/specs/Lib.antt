pub mod Scope
pub mod Sorting
pub mod Occurring
pub mod Weight
pub mod Words
pub mod Laws
