pub mod Complete
pub mod GivenLaws
pub mod PortLaws
pub mod Several
pub mod Turns
