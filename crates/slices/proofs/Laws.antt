pub mod FirstRun
pub mod Painting
