pub mod Parts
pub mod Instances
pub mod Expansion
pub mod Table
