pub mod Figures
pub mod Words
pub mod Fields
pub mod Entries
pub mod Cards
