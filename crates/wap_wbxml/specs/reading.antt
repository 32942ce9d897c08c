pub mod ByteReading
pub mod Fronts
pub mod BodyReading
pub mod Gathering
pub mod Whole
pub mod Making
pub mod inside
