pub mod rows
