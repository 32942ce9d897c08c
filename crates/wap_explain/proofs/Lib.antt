pub mod Unmended
