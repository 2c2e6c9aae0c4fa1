pub mod Depth
pub mod History
pub mod Solutions
pub mod Terms
