pub mod Numbered
pub mod Symbols
pub mod Naming
pub mod Scopes
pub mod Faults
pub mod Limits
pub mod Laws
