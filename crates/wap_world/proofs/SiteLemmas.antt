pub mod Counts
pub mod Asking
pub mod Failing
pub mod Missing
