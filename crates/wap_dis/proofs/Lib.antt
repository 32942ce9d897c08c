pub mod Putting
pub mod Lists
pub mod SplitLaws
