pub mod Chain
pub mod Line
pub mod Lined
pub mod Numbering
pub mod Partway
pub mod PixelBytes
pub mod Reading
pub mod Written
