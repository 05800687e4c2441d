pub mod Bounds
pub mod Hours
