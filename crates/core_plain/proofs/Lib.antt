pub mod Grouping
pub mod Forms
pub mod Closing
