pub mod Picture
pub mod Filling
