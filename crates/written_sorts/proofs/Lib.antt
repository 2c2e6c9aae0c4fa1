pub mod FromMarks
pub mod Least
pub mod ToMarks
