pub mod ExchangeLemmas
pub mod UnaskedLemmas
pub mod ProgramsLemmas
pub mod PagesLemmas
pub mod DenialLemmas
