pub mod Painted
pub mod Partway
