pub mod Covered
pub mod Statement
