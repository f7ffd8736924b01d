pub mod Answer
pub mod Sizes
