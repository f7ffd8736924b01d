pub mod Body
pub mod Headed
pub mod Regular
