pub mod Pages
pub mod Feeds
