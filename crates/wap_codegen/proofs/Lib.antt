mod Bounds
mod Causes
mod Plain
mod Firsts
mod Limits
mod Looping
mod Making
mod Saving
mod Whole
pub mod PoolLemmas
pub mod EmissionLemmas
pub mod SourceFaultsLemmas
