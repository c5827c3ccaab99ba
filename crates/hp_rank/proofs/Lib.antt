pub mod Rising
pub mod Places
pub mod Steps
pub mod Pointers
pub mod Truth
