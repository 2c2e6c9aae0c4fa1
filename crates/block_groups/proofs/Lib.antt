pub mod Turning
pub mod Faults
pub mod Growing
pub mod Unique
