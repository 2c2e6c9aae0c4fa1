pub mod Flaws
pub mod Faults
pub mod Finding
