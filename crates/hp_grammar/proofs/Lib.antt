pub mod Machines
pub mod Symbols
