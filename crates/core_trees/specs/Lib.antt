pub mod PatternReading
pub mod Reading
pub mod Functions
