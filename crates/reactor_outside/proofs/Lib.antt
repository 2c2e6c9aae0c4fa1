pub mod Taken
pub mod RepeatedLaws
