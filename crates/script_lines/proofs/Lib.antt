pub mod Cutting
pub mod Shortening
pub mod Ends
pub mod Segments
pub mod Numbers
pub mod Kept
pub mod Drilled
pub mod Whole
