pub mod Sense
pub mod Ports
pub mod Flaws
pub mod Faults
pub mod Deciding
pub mod Constructors
