pub mod Building
pub mod Chains
pub mod ClashLaws
pub mod FreeLaws
pub mod GrownLaws
pub mod TreeLaws
pub mod Waiting
