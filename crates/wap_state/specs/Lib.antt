pub mod CardAtHand
pub mod Scenes
pub mod Standing
pub mod Saved
pub mod page_urls
