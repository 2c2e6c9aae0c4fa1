pub mod PatternNames
pub mod Steps
