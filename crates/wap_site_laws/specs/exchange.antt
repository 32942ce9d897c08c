pub mod Denial
