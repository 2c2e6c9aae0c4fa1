pub mod Integers
pub mod Values
pub mod Forms
pub mod Following
pub mod Endings
pub mod Projects
pub mod Running
