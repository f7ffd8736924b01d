pub mod Color
pub mod Statement
