pub mod Unions
pub mod Aliases
pub mod Ports
pub mod Declaring
