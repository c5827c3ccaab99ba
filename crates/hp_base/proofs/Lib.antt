pub mod Making
pub mod Each
pub mod Carried
pub mod Growing
mod Apart
mod Alone
pub mod Places
pub mod Literals
pub mod SumsHold
pub mod SumsMade
pub mod Congruent
pub mod CongruentLine
pub mod CongruentPoints
pub mod ArgsSteps
pub mod ArgsDefined
pub mod ArgsDefinitions
pub mod ArgsMade
pub mod ArgsScopes
