pub mod Reports
pub mod Fetching
pub mod Working
pub mod Preparing
pub mod inside
