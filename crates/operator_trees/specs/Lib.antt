pub mod Binds
pub mod Chains
pub mod Levels
pub mod Roots
pub mod Trees
