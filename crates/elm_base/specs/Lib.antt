pub mod Lexemes
pub mod Letters
pub mod Quoted
pub mod Spaces
