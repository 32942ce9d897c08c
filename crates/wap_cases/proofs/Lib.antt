mod Crossing
mod Histories
pub mod Standing
