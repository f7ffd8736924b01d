pub mod Chain
pub mod Colors
pub mod Front
pub mod Header
pub mod Law
pub mod Line
