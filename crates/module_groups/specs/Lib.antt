pub mod Components
pub mod Groups
pub mod Search
