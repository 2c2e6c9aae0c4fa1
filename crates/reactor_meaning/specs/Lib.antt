pub mod Literal
pub mod Program
pub mod Frame
pub mod Command
pub mod Transcript
pub mod Laws
