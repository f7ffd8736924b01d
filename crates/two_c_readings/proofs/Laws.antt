pub mod Call
pub mod Law
pub mod Rows
