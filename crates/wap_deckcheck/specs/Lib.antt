pub mod Profile
pub mod Places
pub mod Faults
pub mod Forms
pub mod Order
pub mod Reached
pub mod inside
