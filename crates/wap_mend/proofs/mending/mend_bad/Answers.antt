-- What is noted at last changes nothing of what the deck is made of.
use Rattle.wap_mend.proofs.Accounted.{some_then}
use Rattle.wap_mend.proofs.Telling.{made_with}
use Rattle.wap_mend.proofs.mending.mend_bad.Goals as goal

pub returns-clause-mended : goal.returns-clause-mended
returns-clause-mended c =
    let found = c.in_ok-made.field-0 in
    let made = c.in-Some.made in
    let is = c.in-Some.is in
    record {
      normal = some_then _ found made is c.in_ok-made.ensures.normal;
      good = some_then _ found made is c.in_ok-made.ensures.good;
      changed = c.in_ok-note_any.ensures.noted;
      made =
          made_with c.args.deck.now made c.made_deck.new.notes.changes
          c.note_any.new.notes.changes
          (some_then _ found made is c.in_ok-made.ensures.made_of)
          c.in_ok-note_any.ensures.still;
    }
