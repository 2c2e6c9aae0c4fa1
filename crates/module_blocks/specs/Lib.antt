pub mod Refers
pub mod Marks
