pub mod Fitting
pub mod Tables
pub mod Shapes
pub mod PartsCopied
pub mod Whole
pub mod Examples
