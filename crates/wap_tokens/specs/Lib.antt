pub mod Rows
pub mod Agreement
pub mod Listed
pub mod inside
pub mod markup
