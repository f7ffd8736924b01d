pub mod Accepted
pub mod Chain
pub mod Colors
pub mod Given
pub mod Head
pub mod Law
pub mod Rows
