pub mod GuardLaws
pub mod ExprReadings
pub mod ExprLaws
pub mod Takes
