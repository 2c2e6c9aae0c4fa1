pub mod Ports
pub mod Parts
pub mod Reader
pub mod Steps
pub mod Laws
pub mod Worked
