pub mod Notices
pub mod Limits
