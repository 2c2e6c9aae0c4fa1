pub mod Sorts
pub mod Vertices
