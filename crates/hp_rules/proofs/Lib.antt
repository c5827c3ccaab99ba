pub mod GuardRows
pub mod Gaps
pub mod WordsAdded
pub mod SameLengths
pub mod Words
pub mod WithCase
pub mod ClausesRead
pub mod ReadArrays
