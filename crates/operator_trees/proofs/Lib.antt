pub mod Sides
pub mod Clashes
pub mod Shapes
pub mod RootLaws
pub mod Building
