pub mod Sequences
pub mod Refusal
pub mod ByteReading
