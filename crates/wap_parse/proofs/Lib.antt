pub mod Levels
pub mod Headers
pub mod Nexts
pub mod Signatures
pub mod Endings
pub mod ExpressionsLemmas
pub mod InvocationLemmas
