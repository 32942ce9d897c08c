pub mod Characters
pub mod Texts
pub mod Grammar
pub mod Calculation
