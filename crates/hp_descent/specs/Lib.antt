pub mod Columns
pub mod LiteralRows
pub mod Answers
pub mod Values
pub mod Laws
pub mod inner
