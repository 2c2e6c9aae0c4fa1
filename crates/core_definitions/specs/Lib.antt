pub mod Inputs
pub mod Definitions
