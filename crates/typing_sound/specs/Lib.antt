pub mod Safe
pub mod SafeEndings
pub mod Settings
pub mod TopValues
pub mod Rewritings
pub mod Programs
