pub mod Replacing
pub mod Instances
pub mod Plain
pub mod Laws
