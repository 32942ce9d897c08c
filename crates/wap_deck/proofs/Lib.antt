pub mod DocumentsLemmas
pub mod ReadingLemmas
pub mod WritingLemmas
pub mod GoodLemmas
