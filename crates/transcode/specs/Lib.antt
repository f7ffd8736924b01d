pub mod File
pub mod Transcoding
pub mod Laws
