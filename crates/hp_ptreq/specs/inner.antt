pub mod Nodes
pub mod Classes
pub mod Ways
pub mod Built
