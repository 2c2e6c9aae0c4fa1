pub mod Within
pub mod Agreeing
pub mod Lists
pub mod Known
pub mod Complete
