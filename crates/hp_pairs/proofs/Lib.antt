pub mod Words
pub mod Solutions
pub mod First
