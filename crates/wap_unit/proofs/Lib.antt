pub mod Texts
pub mod UnitItems
pub mod UnitLaws
pub mod Writers
pub mod SpellingLaws
