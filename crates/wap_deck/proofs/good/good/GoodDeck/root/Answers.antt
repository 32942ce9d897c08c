use Rattle.std.proofs.Common.{◌∙◌, ap, sym, subst, drop, List, ℕ, arith}
use Rattle.std.proofs.lemmas.List.{take_rest}
use Rattle.wap_tokens.specs.declared.markup.document.TheConstants.{LEVEL_LIMIT}
use Rattle.wap_tokens.specs.declared.markup.deck.Deck.{Deck}
use Rattle.wap_deck.specs.good.inside.Nodes.{front_node, IsRead}
use Rattle.wap_deck.specs.good.inside.Notes.{AreNotes}
use Rattle.wap_deck.proofs.GoodLemmas.Ending.{behind_drop}
use Rattle.wap_deck.proofs.GoodLemmas.NoteLaw.{notes_behind}
use Rattle.wap_deck.specs.good.inside.KeptBytes.{deck_in}
use Rattle.wap_deck.proofs.good.good.GoodDeck.root.Goals as goal

pub returns-clause-root : goal.returns-clause-root
unfolding deck_in
returns-clause-root c =
    c.of.ensures
    ∙ ap (front_node c.self.inside.table LEVEL_LIMIT)
    (take_rest c.as_slice-bytes.result.now c.self.inside.root)
    ∙ ap (λ (l : List ℕ). front_node c.self.inside.table LEVEL_LIMIT (drop c.self.inside.root l))
    c.as_slice-bytes.ensures
    ∙ ap (λ (d : Deck). d.root) c.self.view_is

pub of-requires : goal.of-requires
of-requires c =
    let root = c.self.inside.root in
    let rest = take_rest c.as_slice-bytes.result.now root in
    let P : List ℕ → Type 0 =
    λ l. IsRead c.self.inside.table LEVEL_LIMIT (drop root l) in
    let Q : List ℕ → Type 0 = λ l. AreNotes (drop root l) c.self.inside.notes in
    let noted =
    notes_behind (drop root c.self.inside.bytes) c.self.inside.bytes
    (behind_drop root c.self.inside.bytes) c.self.inside.notes c.self.invariant.noted in
    record {
      few = omega arith;
      read =
          subst (IsRead c.self.inside.table LEVEL_LIMIT)
          (sym rest) (subst P (sym c.as_slice-bytes.ensures) c.self.invariant.held.read);
      noted =
          subst (AreNotes _) (sym c.as_slice.ensures)
          (subst (λ (l : List ℕ). AreNotes l c.self.inside.notes) (sym rest)
          (subst Q (sym c.as_slice-bytes.ensures) noted));
    }
