pub mod Marks
pub mod Prefixes
mod Worked
