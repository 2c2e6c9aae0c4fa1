pub mod Sessions
pub mod Answers
pub mod Order
pub mod Written
pub mod Worked
