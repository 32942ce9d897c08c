pub mod Variables
pub mod Setting
pub mod Filling
