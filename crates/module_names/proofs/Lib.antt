pub mod Suffixes
pub mod Repeats
