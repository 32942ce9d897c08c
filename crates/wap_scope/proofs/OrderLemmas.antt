pub mod Spans
pub mod Tokens
pub mod Says
pub mod Programs
