pub mod Pieces
pub mod Rule
pub mod Table
