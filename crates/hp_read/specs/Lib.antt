pub mod Stages
pub mod Top
pub mod Causes
pub mod Reading
pub mod Printed
