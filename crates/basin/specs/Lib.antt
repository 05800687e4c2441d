pub mod Lists
pub mod Views
pub mod Law
pub mod Calls
pub mod Basins
