pub mod Opening
mod Rows
