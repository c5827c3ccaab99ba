pub mod Value
pub mod Declarations
pub mod Scopes
pub mod WellFormed
pub mod Satisfies
pub mod Laws
pub mod Written
