pub mod Laying
pub mod PatternForms
pub mod Closing
pub mod Outs
pub mod Turns
pub mod Shapes
pub mod Wholes
pub mod Program
