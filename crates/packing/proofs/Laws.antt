pub mod Bits
pub mod Lanes
pub mod Numbers
pub mod RoundTrip
pub mod Spare
pub mod Statement
pub mod Weights
pub mod Writing
