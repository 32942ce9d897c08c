pub mod Stages
pub mod Serving
pub mod Finding
pub mod inside
