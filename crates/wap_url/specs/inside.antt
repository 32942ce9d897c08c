pub mod Cut
pub mod Segments
pub mod Slices
