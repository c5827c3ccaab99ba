pub mod Join
pub mod Splitting
pub mod OneLine
pub mod Spelling
