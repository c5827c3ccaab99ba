pub mod Machine
pub mod Given
pub mod BodyMachine
pub mod Moves
