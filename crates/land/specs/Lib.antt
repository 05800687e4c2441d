pub mod Hour
pub mod Laws
pub mod Segments
