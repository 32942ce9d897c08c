pub mod Contents
pub mod Pools
pub mod Leaves
pub mod Declaring
