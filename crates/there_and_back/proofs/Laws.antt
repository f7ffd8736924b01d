pub mod Chain
pub mod Given
pub mod Header
pub mod Law
pub mod Levels
pub mod Line
pub mod Placing
