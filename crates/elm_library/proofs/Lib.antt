pub mod Lens
pub mod Turns
pub mod Texts
