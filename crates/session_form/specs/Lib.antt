pub mod Form
pub mod Laws
pub mod Reader
pub mod Worked
