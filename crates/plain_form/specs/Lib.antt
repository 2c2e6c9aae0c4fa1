pub mod Naming
pub mod PlainForm
pub mod NamedExamples
pub mod Numbering
