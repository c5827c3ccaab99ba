pub mod Trees
pub mod Joining
pub mod Labels
pub mod Searching
pub mod Paths
pub mod Points
