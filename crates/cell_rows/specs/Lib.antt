pub mod Elements
pub mod Lines
pub mod Flows
pub mod Frames
