pub mod Reading
pub mod Rejections
pub mod Resolution
