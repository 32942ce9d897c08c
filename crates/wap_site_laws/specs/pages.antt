pub mod SourcePages
