pub mod Agreeing
pub mod Growing
pub mod Deciding
pub mod Composing
pub mod Fixing
pub mod Going
pub mod Chains
