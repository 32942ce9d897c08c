pub mod Each
pub mod Following
pub mod KeepingParts
pub mod Meanings
pub mod Trees
pub mod Variables
mod Units
pub mod AcceptedLemmas
pub mod NeedsLemmas
