pub mod Defaults
pub mod Faces
pub mod Flaws
pub mod Lookup
pub mod Named
pub mod Split
pub mod Walks
