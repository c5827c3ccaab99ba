pub mod Seeing
mod Applications
mod SameTrees
mod TermKeys
mod TermsFound
mod FlatSteps
mod TestSteps
mod ClauseTests
mod Weighing
mod Placed
mod Applied
mod LiteralSteps
mod Declaring
pub mod NamedWords
pub mod DefinitionsFound
pub mod DeclaredWords
pub mod FormsKept
pub mod GroundsGrew
pub mod TermsKept
pub mod Loads
pub mod TermsNamed
pub mod ApplicationsNamed
pub mod TermsAlways
pub mod AtomsNamed
pub mod MakingOnly
pub mod TermsOnly
pub mod LiteralsTrue
pub mod LinesNamed
pub mod DeclaredGround
pub mod ClauseScopes
pub mod Mentioned
pub mod OpenedKept
pub mod OpenedAlways
pub mod FlatNamed
pub mod ConstantsAlone
pub mod HoldsAtOnce
pub mod ProblemsFlat
