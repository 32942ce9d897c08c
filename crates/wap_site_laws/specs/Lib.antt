pub mod exchange
pub mod unasked
pub mod programs
pub mod pages
