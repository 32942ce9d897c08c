pub mod Ends
pub mod Taking
pub mod SymbolLaws
pub mod Membership
mod Examples
