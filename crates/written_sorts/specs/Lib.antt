pub mod Sorting
pub mod Marks
pub mod Spelled
pub mod Forced
