pub mod Ordered
pub mod Shapes
