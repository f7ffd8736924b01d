pub mod Numbering
pub mod Statement
pub mod Table
