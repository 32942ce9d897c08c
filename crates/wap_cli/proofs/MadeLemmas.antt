pub mod Finding
pub mod Ending
pub mod Counting
pub mod Touring
pub mod KeyTexts
