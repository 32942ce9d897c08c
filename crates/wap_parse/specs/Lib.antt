pub mod inside
pub mod expressions
pub mod invocation
