pub mod Kinds
pub mod Decided
pub mod Components
pub mod Parted
pub mod Placed
pub mod inner
