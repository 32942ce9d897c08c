-- The unit that a program of WMLScript is compiled to, as definitions in `specs/` that compute:
-- its constants, its code and all else, its size in wide code, and which programs have a unit.
-- There is no code here.
pub mod Pool
pub mod Units
pub mod Wide
pub mod Savings
pub mod Accepted
