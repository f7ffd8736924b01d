pub mod Rejections
pub mod Faults
