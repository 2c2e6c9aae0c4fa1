pub mod Choices
pub mod Standing
pub mod Adding
pub mod Sizes
pub mod Terms
pub mod Whole
