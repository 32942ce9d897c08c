use Rattle.std.proofs.Common.{◌∙◌, ap, sym, subst, drop, List, ℕ, arith}
use Rattle.std.proofs.lemmas.List.{take_rest}
use Rattle.wap_deck.specs.good.inside.Nodes.{front_node, IsRead}
use Rattle.wap_deck.specs.good.inside.Notes.{AreNotes}
use Rattle.wap_deck.proofs.GoodLemmas.Ending.{behind_drop}
use Rattle.wap_deck.proofs.GoodLemmas.NoteLaw.{notes_behind}
use Rattle.wap_deck.proofs.GoodLemmas.CardLaw.{levels_below}
use Rattle.wap_deck.proofs.good.cards.view_at.Goals as goal

pub of-requires : goal.of-requires
of-requires c =
    let bytes = c.args.bytes.now in
    let begin = c.args.place.begin in
    let rest = take_rest bytes begin in
    let noted =
    notes_behind (drop begin bytes) bytes
    (behind_drop begin bytes) c.args.notes.now c.requires.noted in
    record {
      few = omega arith;
      read =
          subst (IsRead c.args.table.now levels_below) (sym rest) c.requires.read;
      noted =
          c.notes_from-notes.ensures _
          (subst (λ (l : List ℕ). AreNotes l c.args.notes.now) (sym rest) noted);
    }

pub returns : goal.returns
returns c =
    c.of.ensures ∙ ap (front_node c.args.table.now levels_below)
    (take_rest c.args.bytes.now c.args.place.begin)
