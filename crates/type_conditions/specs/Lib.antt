pub mod Conditions
pub mod Judging
pub mod Deciding
pub mod Marking
