use Rattle.std.proofs.Common.{◌≡◌, ◌∙◌, sym, subst, List, ℕ, Result, Ok, Err}
use Rattle.wap_tokens.specs.markup.Decks.{deck_of}
use Rattle.wap_tokens.specs.markup.Documents.{IsDocument}
use Rattle.wap_tokens.specs.markup.Writing.{document_of}
use Rattle.wap_tokens.specs.declared.markup.deck.Deck.{Deck}
use Rattle.wap_wbxml.specs.declared.fault.DocFault.{DocFault}
use Rattle.wap_deck.proofs.DocumentsLemmas.Nodes.{deck_read}
use Rattle.wap_deck.specs.good.inside.KeptBytes.{deck_in}
use Rattle.wap_deck.proofs.GoodLemmas.DeckLaw.{root_known, held_document}
use Rattle.wap_deck.proofs.good.good.GoodDeck.tree.Goals as goal

pub returns-in-Ok : goal.returns-in-Ok
returns-in-Ok c =
    let good = c.self.inside in
    let held = c.self.invariant.held in
    let deck = deck_in good.table good.root good.bytes in
    let here =
    subst (λ (l : List ℕ). IsDocument l (document_of deck)) (sym c.as_slice.ensures)
    (held_document c.decks_are_spellable.ensures.spellable c.spelling_is_read.ensures
    good.table good.root good.bytes held) in
    let read = c.in-Ok.ensures.only (document_of deck) here in
    let same : c.in-Ok.deck ≡ deck_of (document_of deck) = cc in
    same ∙ deck_read deck held.normal (root_known deck held.good) ∙ c.self.view_is

-- the bytes spell a document, so that no fault comes but that memory ran out
pub unreachable-requires : goal.unreachable-requires
unreachable-requires c =
    let good = c.self.inside in
    let deck = deck_in good.table good.root good.bytes in
    let here =
    subst (λ (l : List ℕ). IsDocument l (document_of deck)) (sym c.as_slice.ensures)
    (held_document c.decks_are_spellable.ensures.spellable c.spelling_is_read.ensures
    good.table good.root good.bytes c.self.invariant.held) in
    let same : ◌≡◌ {A = Result Deck DocFault} (Ok (deck_of (document_of deck)))
    (Err c.in-Err.fault) =
    c.in-Err.ensures.only (document_of deck) here c.in_default.not-NoMemory in
    absurd (cc same)
