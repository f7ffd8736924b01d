pub mod Accepted
pub mod Entries
