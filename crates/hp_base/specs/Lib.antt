pub mod Making
pub mod Lines
pub mod Defining
pub mod Arguments
pub mod Congruence
pub mod Values
pub mod Laws
