pub mod Posting
pub mod Feeds
pub mod Pages
pub mod Cards
