pub mod Blocks
pub mod Cycles
pub mod Growing
pub mod Placed
pub mod Turns
