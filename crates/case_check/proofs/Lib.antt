pub mod Refining
pub mod Exact
pub mod Counting
pub mod Fronts
pub mod Standing
pub mod OneMore
