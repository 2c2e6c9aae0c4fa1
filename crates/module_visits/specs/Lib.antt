pub mod Files
pub mod Opening
pub mod Visits
pub mod Reading
pub mod Answers
pub mod Stack
