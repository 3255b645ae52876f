pub mod Classes
pub mod Lexing
pub mod Told
pub mod Tokens
