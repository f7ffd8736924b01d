pub mod Counts
pub mod LittleEndian
pub mod Over
pub mod Rules
pub mod Scan
pub mod Words
