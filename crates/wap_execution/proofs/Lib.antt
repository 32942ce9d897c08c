mod Worked
pub mod LawsLemmas
