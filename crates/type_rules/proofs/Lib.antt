pub mod Rows
pub mod Ruling
pub mod Recording
