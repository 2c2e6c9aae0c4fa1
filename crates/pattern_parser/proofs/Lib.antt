pub mod TypeReadings
pub mod TypeLaws
pub mod PatternReadings
pub mod PatternLaws
