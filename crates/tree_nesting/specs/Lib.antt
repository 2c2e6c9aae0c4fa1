pub mod Nesting
pub mod ExpressionNesting
