pub mod Deciding
pub mod Determined
pub mod Finding
pub mod Surplus
pub mod Constructors
