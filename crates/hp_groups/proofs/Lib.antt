pub mod Grouping
pub mod Classes
pub mod Held
pub mod Apart
