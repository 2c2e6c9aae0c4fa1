pub mod Flags
pub mod Ground
pub mod Labels
pub mod Names
pub mod Ordered
pub mod Rows
pub mod Sorts
pub mod Spelling
