pub mod Call
pub mod Statement
