pub mod Corners
pub mod Moving
pub mod Places
pub mod Turning
