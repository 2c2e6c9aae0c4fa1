pub mod Adding
pub mod Determined
pub mod Least
pub mod Places
pub mod Walking
pub mod WholeTrees
