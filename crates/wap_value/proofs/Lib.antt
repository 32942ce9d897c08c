pub mod WorkedRows
pub mod Shifts
pub mod Range
pub mod Names
pub mod NumberLaws
pub mod Kept
