pub mod Faults
pub mod Memory
pub mod Refusals
pub mod Judged
pub mod Printing
pub mod Caches
pub mod Histories
pub mod inside
