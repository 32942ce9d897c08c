pub mod Places
pub mod Refusals
pub mod Refusal
pub mod Printing
pub mod reading
pub mod spelling
