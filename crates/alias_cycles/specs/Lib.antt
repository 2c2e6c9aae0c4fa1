pub mod Naming
pub mod Cycles
