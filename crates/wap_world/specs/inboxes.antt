pub mod Winners
pub mod Notices
pub mod Inboxes
