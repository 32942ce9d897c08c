use Rattle.std.proofs.Common.{◌≡◌, ◌∙◌, ◌≤◌, sym, ap, subst, length, List, ℕ}
use Rattle.wap_base.specs.Numbers.{mb_at}
use Rattle.wap_deck.specs.good.inside.Notes.{AreNotes}
use Rattle.wap_deck.specs.good.inside.KeptBytes.{table_in, deck_in, IsHeld, IsKept}
use Rattle.wap_deck.proofs.GoodLemmas.DeckLaw.{root_known}
use Rattle.wap_deck.proofs.good.good.keep.Goals as goal

pub spelled-requires : goal.spelled-requires
spelled-requires c =
    c.decks_are_spellable.ensures.spellable c.args.deck.now c.requires.normal
    (root_known c.args.deck.now c.requires.good)

pub card_places-requires-clause-held : goal.card_places-requires-clause-held
card_places-requires-clause-held c =
    let spellable =
    c.decks_are_spellable.ensures.spellable c.args.deck.now c.requires.normal
    (root_known c.args.deck.now c.requires.good) in
    let are =
    c.in_ok-bytes.ensures.spelled in
    let found =
    ap (λ (l : List ℕ). mb_at l 3) (sym c.as_slice-whole.ensures) ∙ c.places-table.ensures.exact in
    let within =
    subst (λ (l : List ℕ). c.places-table.result.1 ≤ length l)
    c.as_slice-whole.ensures c.places-table.ensures.root in
    let held =
    (c.decks_are_read.ensures.deck c.args.deck.now c.in_ok-bytes.bytes c.places-table.result.0
    c.places-table.result.1
    c.requires.good c.requires.normal c.in_ok-bytes.ensures.characters spellable are found
    c.places-table.ensures.table within).0 in
    subst (λ (l : List ℕ). IsHeld l c.places-table.result.1 c.as_slice-whole.result.now)
    (sym c.in_ok-names.ensures)
    (subst (λ (l : List ℕ). IsHeld
    (table_in c.places-table.result.0 c.places-table.result.1 l) c.places-table.result.1 l)
    (sym c.as_slice-whole.ensures) held)

pub card_places-requires-clause-same : goal.card_places-requires-clause-same
card_places-requires-clause-same c =
    let spellable =
    c.decks_are_spellable.ensures.spellable c.args.deck.now c.requires.normal
    (root_known c.args.deck.now c.requires.good) in
    let found =
    ap (λ (l : List ℕ). mb_at l 3) (sym c.as_slice-whole.ensures) ∙ c.places-table.ensures.exact in
    let within =
    subst (λ (l : List ℕ). c.places-table.result.1 ≤ length l)
    c.as_slice-whole.ensures c.places-table.ensures.root in
    let root = c.places-table.result.1 in
    ap (λ (l : List ℕ). deck_in l root c.as_slice-whole.result.now) c.in_ok-names.ensures
    ∙ ap (λ (l : List ℕ). deck_in (table_in c.places-table.result.0 root l) root l)
    c.as_slice-whole.ensures
    ∙ (c.decks_are_read.ensures.deck c.args.deck.now c.in_ok-bytes.bytes c.places-table.result.0
    root c.requires.good c.requires.normal c.in_ok-bytes.ensures.characters spellable
    c.in_ok-bytes.ensures.spelled found c.places-table.ensures.table within).1

pub card_places-requires-clause-noted : goal.card_places-requires-clause-noted
card_places-requires-clause-noted c =
    subst (AreNotes c.as_slice-whole.result.now) (sym c.as_slice.ensures) c.in_ok-notes.ensures

pub invariant_of-result : goal.invariant_of-result
invariant_of-result c =
    let kept =
    subst (λ (l : List ℕ).
    IsKept c.in_ok-names.names c.places-table.result.1 l c.in_ok-cards.cards c.as_slice.result.now)
    c.as_slice-whole.ensures c.in_ok-cards.ensures in
    subst (IsKept c.in_ok-names.names c.places-table.result.1 c.in_ok-bytes.bytes
    c.in_ok-cards.cards)
    c.as_slice.ensures kept

pub returns : goal.returns
returns c =
    let spellable =
    c.decks_are_spellable.ensures.spellable c.args.deck.now c.requires.normal
    (root_known c.args.deck.now c.requires.good) in
    let are =
    c.in_ok-bytes.ensures.spelled in
    let found =
    ap (λ (l : List ℕ). mb_at l 3) (sym c.as_slice-whole.ensures) ∙ c.places-table.ensures.exact in
    let within =
    subst (λ (l : List ℕ). c.places-table.result.1 ≤ length l)
    c.as_slice-whole.ensures c.places-table.ensures.root in
    let table : c.in_ok-names.names
    ≡ table_in c.places-table.result.0 c.places-table.result.1 c.in_ok-bytes.bytes =
    c.in_ok-names.ensures
    ∙ ap (table_in c.places-table.result.0 c.places-table.result.1) c.as_slice-whole.ensures in
    ap (λ (l : List ℕ). deck_in l c.places-table.result.1 c.in_ok-bytes.bytes) table
    ∙ (c.decks_are_read.ensures.deck c.args.deck.now c.in_ok-bytes.bytes c.places-table.result.0
    c.places-table.result.1
    c.requires.good c.requires.normal c.in_ok-bytes.ensures.characters spellable are found
    c.places-table.ensures.table within).1
