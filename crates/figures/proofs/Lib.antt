pub mod Cubes
pub mod Knots
pub mod Parts
pub mod Portions
pub mod Shares
pub mod Sixteenths
pub mod Heights
