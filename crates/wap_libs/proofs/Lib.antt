pub mod Names
pub mod Draws
pub mod TextsLemmas
pub mod LawsLemmas
