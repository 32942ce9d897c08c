pub mod ByteReading
pub mod ImageReading
pub mod Fitting
