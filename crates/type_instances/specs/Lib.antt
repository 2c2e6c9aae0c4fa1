pub mod Uses
pub mod Tables
pub mod Building
pub mod Listing
pub mod Choosing
