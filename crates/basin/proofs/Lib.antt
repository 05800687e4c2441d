pub mod Moves
pub mod Basins
pub mod Runs
