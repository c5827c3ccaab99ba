pub mod Words
pub mod Transfer
pub mod Refusals
pub mod Verdicts
pub mod Answer
pub mod Laws
