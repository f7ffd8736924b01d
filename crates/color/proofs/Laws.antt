pub mod Colors
pub mod Differ
