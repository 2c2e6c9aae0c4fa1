pub mod Session
pub mod Words
pub mod Project
pub mod Loading
pub mod Served
pub mod Status
pub mod Serving
pub mod Run
