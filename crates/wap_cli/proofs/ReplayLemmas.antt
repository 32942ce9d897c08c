pub mod Sites
pub mod Named
pub mod Listed
pub mod Transcripts
pub mod Ending
pub mod Over
