pub mod TextLaws
pub mod SetLaws
pub mod UpdateLaws
pub mod RemovalLaws
pub mod FillLaws
