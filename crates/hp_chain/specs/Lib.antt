pub mod Slots
pub mod Order
pub mod Ground
pub mod Structures
pub mod Laws
pub mod Answers
