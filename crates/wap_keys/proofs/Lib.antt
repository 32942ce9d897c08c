mod KeyLaws
pub mod LineLaws
mod LineSteps
pub mod GivingLaws
pub mod ReaderLaws
mod ReaderSteps
pub mod WholeLaws
pub mod FaultLaws
mod SpellLaws
mod WordLaws
mod ListLaws
pub mod WordsLemmas
