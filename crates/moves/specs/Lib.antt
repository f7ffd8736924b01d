pub mod Moves
pub mod Tabulate
pub mod Laws
