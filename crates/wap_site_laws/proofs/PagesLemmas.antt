pub mod Judging
pub mod Making
