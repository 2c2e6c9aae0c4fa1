pub mod Shapes
pub mod Missing
pub mod Asked
pub mod Search
pub mod Examples
pub mod Trees
pub mod Warnings
