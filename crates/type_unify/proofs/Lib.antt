mod Heads
mod Match
mod PartLists
mod Heavier
mod Narrowing
mod Reading
mod Adding
mod Asking
mod Binding
pub mod Building
mod Deciding
pub mod Standing
mod Visiting
mod Unifying
mod Taking
