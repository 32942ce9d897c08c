pub mod Integer
pub mod Numeral
pub mod Conversion
pub mod Arithmetic
pub mod Order
pub mod Unary
pub mod Binary
pub mod TooLong
