pub mod Walks
pub mod Working
pub mod Verifying
pub mod RunnableLemmas
