pub mod InTurn
pub mod Stopping
