pub mod Making
pub mod inside
