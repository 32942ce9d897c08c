pub mod Images
pub mod AtRest
