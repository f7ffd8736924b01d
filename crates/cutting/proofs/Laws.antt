pub mod Rule
pub mod Pieces
pub mod Table
