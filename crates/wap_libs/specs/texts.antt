pub mod Draft
pub mod Read
