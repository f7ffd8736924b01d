pub mod Packing
pub mod Statement
pub mod Lanes
pub mod Weights
