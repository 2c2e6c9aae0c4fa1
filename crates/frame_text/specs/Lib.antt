pub mod Lines
pub mod Frame
pub mod TypeText
pub mod Faults
pub mod Refusals
pub mod Worked
