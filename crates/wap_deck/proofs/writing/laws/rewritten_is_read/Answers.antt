use Rattle.wap_tokens.specs.markup.Decks.{deck_of}
use Rattle.wap_tokens.specs.markup.Writing.{document_of}
use Rattle.wap_deck.proofs.DocumentsLemmas.Normality.{deck_is_normal, deck_texts}
use Rattle.wap_deck.proofs.writing.laws.rewritten_is_read.Goals as goal

pub returns : goal.returns
returns c = λ document is known.
    let deck = deck_of document in
    let normal = deck_is_normal document in
    let texts = deck_texts document (c.documents_are_spellable.ensures.texts document is) in
    c.spelling_is_read.ensures (document_of deck)
    (c.decks_are_spellable.ensures.spellable deck normal known)
    (c.decks_are_spellable.ensures.texts deck normal known texts)
