pub mod Made
pub mod Answering
