pub mod Chain
pub mod Partway
pub mod PixelBytes
pub mod Reading
pub mod Scanline
