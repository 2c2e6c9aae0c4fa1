pub mod Lines
pub mod Names
pub mod Commands
pub mod Kept
pub mod Reading
pub mod Drill
pub mod Worked
pub mod Laws
