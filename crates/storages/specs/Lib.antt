pub mod Meaning
pub mod Slope
pub mod Leak
pub mod Chain
pub mod Nested
pub mod Balances
