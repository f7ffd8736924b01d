pub mod Pieces
pub mod Put
