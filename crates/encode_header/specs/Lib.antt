pub mod Header
pub mod Job
pub mod Picture
pub mod Positions
pub mod Resolution
pub mod Laws
