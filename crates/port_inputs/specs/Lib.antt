pub mod Fit
pub mod Placed
pub mod SameType
pub mod Worked
