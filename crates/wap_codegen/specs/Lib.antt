pub mod Turned
pub mod Faults
pub mod inside
pub mod pool
pub mod emission
pub mod source_faults
