mod LiteralSteps
mod NameWords
mod Walking
pub mod ArgTerms
pub mod Replaced
pub mod InstancesLight
mod InstanceSteps
pub mod LiteralsSay
pub mod InstancesSay
pub mod ComingBack
pub mod PlainTuples
