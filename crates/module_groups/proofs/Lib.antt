pub mod Members
pub mod Reaching
pub mod Grouping
pub mod Following
pub mod Marks
pub mod Rounds
