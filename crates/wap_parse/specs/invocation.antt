pub mod inside
pub mod Calls
pub mod Calculation
