pub mod Errors
mod Ends
pub mod Memory
pub mod Refusing
pub mod Judgements
mod Keeping
mod Histories
mod Seeing
pub mod Fetching
mod Looking
