pub mod Bytes
pub mod Numeral
pub mod Words
pub mod Tokens
pub mod Reading
pub mod Placed
pub mod Lexes
pub mod Longest
