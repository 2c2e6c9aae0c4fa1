pub mod ExprCalls
pub mod Places
pub mod Chains
