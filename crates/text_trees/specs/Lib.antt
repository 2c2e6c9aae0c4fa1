pub mod Spells
