pub mod Tops
pub mod Picks
