pub mod Faults
pub mod Finding
pub mod Firsts
pub mod Meanings
pub mod Modules
pub mod Resolving
pub mod Visible
