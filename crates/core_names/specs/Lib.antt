pub mod Tables
pub mod Binding
