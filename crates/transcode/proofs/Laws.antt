pub mod Call
pub mod Lines
pub mod Survey
pub mod Whole
pub mod Writing
