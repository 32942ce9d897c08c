use Rattle.std.proofs.Common.{length, sym, refl, subst}
use Rattle.wap_tokens.specs.declared.markup.document.TheConstants.{LEVEL_LIMIT}
use Rattle.wap_deck.specs.declared.good.notes.Note.{Note}
use Rattle.wap_deck.specs.good.inside.Nodes.{FollowsNode}
use Rattle.wap_deck.specs.good.inside.Notes.{IsOwn}
use Rattle.wap_deck.proofs.GoodLemmas.Ending.{rest_shorter}
use Rattle.wap_deck.proofs.GoodLemmas.NoteLaw.{note_here, last_here, tag_no_end, tag_no_part}
use Rattle.wap_deck.proofs.good.notes.note_of.Goals as goal

pub returns-clause-noted : goal.returns-clause-noted
returns-clause-noted c =
    let bytes = c.args.bytes.now in
    let rest = c.args.rest.now in
    let note : Note = record {
      begin = length bytes;
      end = length rest;
      known = c.args.known;
    } in
    let found = sym c.in_ok-tag_of.ensures in
    let own : IsOwn bytes note = record {
      more = tag_no_end bytes c.in_ok-mark.mark c.in_ok-mark.field-0-1.now c.in_ok-mark.ensures _
          found;
      none = tag_no_part bytes c.in_ok-mark.mark c.in_ok-mark.field-0-1.now c.in_ok-mark.ensures _
          found;
      follows =
          subst (FollowsNode LEVEL_LIMIT bytes)
          (sym (last_here bytes rest c.requires.behind))
          c.requires.follows;
      head = c.requires.head;
    } in
    let shorter = rest_shorter bytes rest own.more c.requires.behind in
    note_here bytes note refl shorter own
