pub mod Headers
pub mod Rules
