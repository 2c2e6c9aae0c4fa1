pub mod Derivations
pub mod Annotated
pub mod Formed
