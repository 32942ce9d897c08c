pub mod Items
pub mod Joining
pub mod Strings
pub mod Values
pub mod Nodes
pub mod Characters
pub mod Together
pub mod Normality
