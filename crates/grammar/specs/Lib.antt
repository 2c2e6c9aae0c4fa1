pub mod Terminals
pub mod Rules
pub mod Reader
pub mod Spelling
pub mod Lists
pub mod Wholes
