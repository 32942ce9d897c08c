pub mod LiteralReading
pub mod ArgumentReading
pub mod CallReading
pub mod Tokens
