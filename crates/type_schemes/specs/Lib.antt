pub mod Schemes
pub mod Copies
pub mod Examples
