pub mod Types
pub mod TypeReader
pub mod TypeCalls
pub mod Patterns
pub mod PatternReader
pub mod PatternCalls
