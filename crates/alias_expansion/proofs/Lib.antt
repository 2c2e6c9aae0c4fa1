pub mod FieldLaws
pub mod Passes
