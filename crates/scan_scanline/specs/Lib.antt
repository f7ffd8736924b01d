pub mod Answer
pub mod Regular
