use Rattle.std.proofs.Common.{List, sym, subst}
use Rattle.wap_deck.specs.declared.good.notes.Note.{Note}
use Rattle.wap_deck.specs.good.inside.Notes.{AreMore}
use Rattle.wap_deck.proofs.GoodLemmas.NoteLaw.{more_put}
use Rattle.wap_deck.proofs.good.notes.add_note.Goals as goal

pub returns-in_ok-insert : goal.returns-in_ok-insert
returns-in_ok-insert c =
    subst (λ (l : List Note). AreMore c.args.bytes.now c.args.notes.now.items l)
    (sym c.in_ok-insert.ensures.items)
    (more_put c.args.bytes.now c.args.notes.now.items c.args.place c.in-Some.note
    c.in-Some.ensures.begin c.in-Some.ensures.noted)
