pub mod Lowered
pub mod Laying
pub mod Whole
