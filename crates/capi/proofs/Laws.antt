pub mod Coloring
pub mod Outcome
pub mod Reading
pub mod Rejections
pub mod Sizes
pub mod Writing
