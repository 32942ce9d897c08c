pub mod ItemLaws
pub mod ImageLaws
pub mod SpellingLaws
pub mod RulesLaws
