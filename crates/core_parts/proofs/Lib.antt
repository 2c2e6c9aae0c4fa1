pub mod Further
pub mod Apart
pub mod Looking
