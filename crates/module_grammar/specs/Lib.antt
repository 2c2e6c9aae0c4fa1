pub mod Declarations
pub mod DeclarationReader
pub mod Chunks
pub mod Modules
pub mod ModuleReader
