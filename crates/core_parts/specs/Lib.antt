pub mod Making
pub mod Members
