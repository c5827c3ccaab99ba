pub mod Walking
pub mod Faultless
pub mod Places
pub mod Found
