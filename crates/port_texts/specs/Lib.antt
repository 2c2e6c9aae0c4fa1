pub mod Given
pub mod PortTexts
pub mod Reader
pub mod Worked
