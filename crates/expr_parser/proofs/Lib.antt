pub mod Closing
pub mod Fronts
pub mod LinkTurns
pub mod LastLaws
pub mod LinkParts
