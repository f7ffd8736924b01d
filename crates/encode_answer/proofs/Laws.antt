pub mod Call
pub mod Sizes
