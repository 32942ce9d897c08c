use Rattle.wap_state.proofs.Saving.{entries_next, room_next, texts_next}
use Rattle.wap_state.proofs.saved.history_of.Goals as goal

pub loop-text-preserved : goal.loop-text-preserved
loop-text-preserved c =
    let items = c.loop-text.text-iterator.rest.items in
    let left = c.next.new.self.rest.items in
    let next = c.in-Some.ensures.steps.0 in
    record {
      entries =
          entries_next c.args.parts items left c.loop-text.history c.add_entry.new.history
          c.in-Some.text c.in-Some.card c.loop-text.invariant.entries next
          c.in_ok-add_entry.ensures;
      room =
          room_next c.args.limit items left c.loop-text.history c.add_entry.new.history
          c.in-Some.text c.in-Some.card c.loop-text.invariant.room next c.in_ok-add_entry.ensures;
      urls =
          texts_next items left c.in-Some.text c.in-Some.card c.loop-text.invariant.urls next;
    }
