pub mod ByType
pub mod Bytes
pub mod Left
pub mod Most
