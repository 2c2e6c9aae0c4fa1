pub mod Events
pub mod StageOne
pub mod Nodes
pub mod Moments
pub mod Order
pub mod Outcomes
pub mod NoteTable
pub mod Programs
