pub mod Sorting
pub mod Waiting
pub mod Variables
