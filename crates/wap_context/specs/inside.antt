pub mod AtHand
pub mod Moving
pub mod Ticking
pub mod Starting
pub mod Reviving
