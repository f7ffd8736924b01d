pub mod Cases
pub mod Files
pub mod Pairs
pub mod Written
