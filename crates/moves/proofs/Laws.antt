pub mod Filling
pub mod Grid
pub mod Picture
pub mod Rows
pub mod Tabulate
