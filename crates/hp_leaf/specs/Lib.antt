pub mod Leaf
pub mod Check
pub mod Tree
pub mod Path
pub mod Nested
pub mod Laws
pub mod Renumbered
