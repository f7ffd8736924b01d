pub mod Answer
pub mod File
pub mod Positions
pub mod Writing
pub mod Laws
