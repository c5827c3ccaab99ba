pub mod Counting
pub mod Mapped
