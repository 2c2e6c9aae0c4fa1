pub mod Each
pub mod NestingLaws
pub mod ExprNestingLaws
pub mod MostLaws
