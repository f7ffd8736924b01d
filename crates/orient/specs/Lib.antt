pub mod Corners
pub mod Orientation
pub mod Statement
pub mod Turning
