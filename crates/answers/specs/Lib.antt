pub mod Answer
pub mod Statement
