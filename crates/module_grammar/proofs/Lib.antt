pub mod DeclarationReadings
pub mod DeclarationLaws
pub mod ChunkLaws
pub mod Exact
pub mod ModuleLaws
pub mod StandLaws
