pub mod Judging
pub mod Parameters
pub mod WrittenOf
