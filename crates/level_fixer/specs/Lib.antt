pub mod ChainFree
pub mod Clashes
pub mod FixedTrees
pub mod GrownTrees
pub mod ProjectLevels
pub mod Fixing
