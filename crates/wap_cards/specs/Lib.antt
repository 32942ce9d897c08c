pub mod inside
pub mod inputs
pub mod flow
