pub mod ByteReading
pub mod UnitReading
