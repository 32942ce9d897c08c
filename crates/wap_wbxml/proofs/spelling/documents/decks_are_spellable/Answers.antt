use Rattle.std.proofs.Common.{refl}
use Rattle.wap_wbxml.proofs.SpellingLemmas.DeckLaws.{deck_spellable, deck_fits}
use Rattle.wap_wbxml.proofs.spelling.documents.decks_are_spellable.Goals as goal

pub returns-clause-spellable : goal.returns-clause-spellable
returns-clause-spellable c = deck_spellable

pub returns-clause-texts : goal.returns-clause-texts
returns-clause-texts c = deck_fits

pub returns-clause-same : goal.returns-clause-same
returns-clause-same c = λ deck. refl
