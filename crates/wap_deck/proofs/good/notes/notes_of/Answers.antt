use Rattle.std.proofs.Common.{ℕ, ◌∙◌, ◌-◌, List, length, take, drop, sym, subst}
use Rattle.std.proofs.lemmas.List.{take_rest}
use Rattle.wap_deck.specs.good.Readers.{IsBehind}
use Rattle.wap_deck.specs.good.inside.Notes.{AreNotes}
use Rattle.wap_deck.proofs.GoodLemmas.Ending.{behind_drop}
use Rattle.wap_deck.proofs.good.notes.notes_of.Goals as goal

pub returns : goal.returns
returns c =
    let bytes = c.args.bytes.now in
    let root = c.args.root in
    let behind : IsBehind (take (length bytes - root) (drop root bytes)) bytes =
    subst (λ (l : List ℕ). IsBehind l bytes) (sym (take_rest bytes root)) (behind_drop root bytes)
    in
    let none = subst (AreNotes bytes) (sym c.new-notes.ensures.items) tt in
    let are = c.in_ok-note_node.ensures.noted.noted bytes behind none in
    subst (AreNotes bytes) (sym (c.from_vec.ensures ∙ c.shrink_to_fit.ensures.items)) are
