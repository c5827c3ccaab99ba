pub mod Singles
pub mod Spread
pub mod Leading
