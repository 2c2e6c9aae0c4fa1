pub mod Joining
pub mod Forms
