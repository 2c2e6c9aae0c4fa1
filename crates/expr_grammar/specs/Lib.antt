pub mod Expressions
pub mod ExprReader
