pub mod BlockSizes
