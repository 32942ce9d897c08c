pub mod documents
pub mod reading
pub mod writing
pub mod good
