mod SameTrees
pub mod Sides
pub mod Guarded
