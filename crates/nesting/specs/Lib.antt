pub mod Pumped
pub mod River
