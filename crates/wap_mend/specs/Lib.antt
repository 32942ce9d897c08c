pub mod Mending
pub mod Identifiers
pub mod Pages
pub mod Accounts
pub mod inside
