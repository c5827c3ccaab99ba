pub mod Places
pub mod Splitting
pub mod Mixed
pub mod Merging
pub mod Gathering
pub mod Chained
