use Rattle.std.proofs.Common.{◌≡◌, ◌∙◌, ◌-◌, drop, sym, subst, true, rules, arith}
use Rattle.std.proofs.lemmas.Result.{IfOk-weaker}
use Rattle.wap_tokens.specs.markup.Codes.{has_content}
use Rattle.wap_deck.specs.good.Readers.{IsBehind, Leaves, closed, is_end}
use Rattle.wap_deck.specs.good.inside.Nodes.{item_at}
use Rattle.wap_deck.proofs.GoodLemmas.Ending.{behind_all, behind_on, drop_behind, behind_drop}
use Rattle.wap_deck.proofs.GoodLemmas.Ending.{end_behind}
use Rattle.wap_deck.proofs.GoodLemmas.Ending.{behind_first, behind_of_first, item_text, item_node}
use Rattle.wap_deck.proofs.GoodLemmas.Ending.{node_leaves, none_leaves, list_leaves, no_list_leaves}
use Rattle.wap_deck.proofs.GoodLemmas.Ending.{item_lists, closes_turn, closed_leaves}
use Rattle.wap_deck.proofs.GoodLemmas.NoteLaw.{more_none, more_on}
use Rattle.wap_deck.proofs.good.notes.+notes.Goals as goal

pub note_content-returns-then-not-has_content-clause-exact :
    goal.note_content-returns-then-not-has_content-clause-exact
note_content-returns-then-not-has_content-clause-exact t c = λ table below least some.
    no_list_leaves (has_content c.args.mark) (item_at table (below - 1)) c.args.bytes.now
    (sym c.has_content.ensures ∙ c.if-not-has_content.true)

pub note_content-returns-then-levels-eq0-clause-exact :
    goal.note_content-returns-then-levels-eq0-clause-exact
note_content-returns-then-levels-eq0-clause-exact t c = λ table below least some.
    list_leaves (has_content c.args.mark) (item_at table (below - 1)) c.args.bytes.now
    c.after_kids.result.now (sym c.has_content.ensures ∙ c.if-not-has_content.false)
    (c.after_kids.ensures.exact table (below - 1) (omega arith))

pub note_content-returns-clause-exact : goal.note_content-returns-clause-exact
note_content-returns-clause-exact t c =
    IfOk-weaker c.note_kids.result _ _ (λ rest exact. λ table below least some.
    list_leaves (has_content c.args.mark) (item_at table (below - 1)) c.args.bytes.now
    rest.now (sym c.has_content.ensures ∙ c.if-not-has_content.false)
    (exact table (below - 1) (omega arith))) c.note_kids.ensures.exact

pub note_item-returns-in-Some-clause-exact : goal.note_item-returns-in-Some-clause-exact
note_item-returns-in-Some-clause-exact t c = λ table below least ends.
    item_text table below c.args.bytes.now c.in-Some.rest.now c.after_bits.result.now
    c.in-Some.ensures ends c.after_bits.ensures.exact

pub note_item-returns-in-Some-clause-behind : goal.note_item-returns-in-Some-clause-behind
note_item-returns-in-Some-clause-behind t c =
    behind_on c.after_bits.result.now c.in-Some.rest.now (drop 1 c.args.bytes.now)
    c.after_bits.ensures.behind (end_behind c.args.bytes.now c.in-Some.rest.now c.in-Some.ensures)

pub note_item-returns-in-None-clause-exact : goal.note_item-returns-in-None-clause-exact
note_item-returns-in-None-clause-exact t c =
    IfOk-weaker c.note_node.result _ _ (λ rest exact. λ table below least ends.
    item_node table below c.args.bytes.now rest.now c.in-None.ensures (exact table below least))
    c.note_node.ensures.exact

pub note_kids-loop-notes-preserved : goal.note_kids-loop-notes-preserved
note_kids-loop-notes-preserved t c = record {
  exact = λ table below least end so.
      closes_turn (item_at table below)
      (item_lists table below) c.loop-notes.rest.now c.in_ok-rest.rest.now end (search rules)
      (c.in_ok-rest.ensures.exact table below least)
      (c.loop-notes.invariant.exact table below least end so);
  behind =
      behind_on c.in_ok-rest.rest.now c.loop-notes.rest.now c.args.bytes.now
      (drop_behind c.in_ok-rest.rest.now c.loop-notes.rest.now c.in_ok-rest.ensures.behind)
      c.loop-notes.invariant.behind;
  noted =
      more_on c.args.bytes.now c.loop-notes.rest.now c.args.notes.now.items
      c.loop-notes.notes.items c.note_item.new.notes.items c.loop-notes.invariant.behind
      c.loop-notes.invariant.noted c.in_ok-rest.ensures.noted;
}

pub note_kids-returns-clause-exact : goal.note_kids-returns-clause-exact
note_kids-returns-clause-exact t c = λ table below least.
    let over : is_end c.loop-notes.rest.now ≡ true = cc in
    subst (Leaves (closed (item_at table below)) c.args.bytes.now) (sym c.after_first.ensures)
    (closed_leaves (item_at table below) (item_lists table below)
    c.args.bytes.now c.loop-notes.rest.now (c.loop-notes.invariant.exact table below least) over)

pub note_kids-returns-clause-behind : goal.note_kids-returns-clause-behind
note_kids-returns-clause-behind t c =
    behind_on c.after_first.result.now c.loop-notes.rest.now c.args.bytes.now
    (subst (λ l. IsBehind l c.loop-notes.rest.now) (sym c.after_first.ensures)
    (behind_drop 1 c.loop-notes.rest.now)) c.loop-notes.invariant.behind

pub note_node-returns-in_default-clause-exact : goal.note_node-returns-in_default-clause-exact
note_node-returns-in_default-clause-exact t c =
    λ table below least. none_leaves table below c.args.bytes.now _ c.in_default.ensures

pub note_node-add_note-requires-clause-follows : goal.note_node-add_note-requires-clause-follows
note_node-add_note-requires-clause-follows t c = λ table below least.
    node_leaves table below c.args.bytes.now c.in-Some.mark c.in-Some.rest.now
    c.known_of.result.1.now c.in_ok-behind.behind.now c.in-Some.ensures
    (c.known_of.ensures.exact table) (c.in_ok-behind.ensures.exact table below least)

pub note_node-add_note-requires-clause-behind : goal.note_node-add_note-requires-clause-behind
note_node-add_note-requires-clause-behind t c =
    behind_of_first c.args.bytes.now c.in-Some.mark c.in-Some.rest.now c.in_ok-behind.behind.now
    c.in-Some.ensures
    (behind_on c.in_ok-behind.behind.now c.known_of.result.1.now c.in-Some.rest.now
    c.in_ok-behind.ensures.behind c.known_of.ensures.behind)

pub note_node-returns-clause-exact : goal.note_node-returns-clause-exact
note_node-returns-clause-exact t c = λ table below least.
    node_leaves table below c.args.bytes.now c.in-Some.mark c.in-Some.rest.now
    c.known_of.result.1.now c.in_ok-behind.behind.now c.in-Some.ensures
    (c.known_of.ensures.exact table) (c.in_ok-behind.ensures.exact table below least)

pub note_node-returns-clause-behind : goal.note_node-returns-clause-behind
note_node-returns-clause-behind t c =
    behind_of_first c.args.bytes.now c.in-Some.mark c.in-Some.rest.now c.in_ok-behind.behind.now
    c.in-Some.ensures
    (behind_on c.in_ok-behind.behind.now c.known_of.result.1.now c.in-Some.rest.now
    c.in_ok-behind.ensures.behind c.known_of.ensures.behind)

pub note_node-returns-clause-noted : goal.note_node-returns-clause-noted
note_node-returns-clause-noted t c =
    let bytes = c.args.bytes.now in
    let content = c.known_of.result.1.now in
    let notes = c.args.notes.now.items in
    let within = c.note_content.new.notes.items in
    let behind =
    behind_on content c.in-Some.rest.now bytes c.known_of.ensures.behind
    (behind_first bytes c.in-Some.mark c.in-Some.rest.now c.in-Some.ensures) in
    more_on bytes bytes notes within c.add_note.new.notes.items (behind_all bytes)
    (more_on bytes content notes notes within behind (more_none bytes notes)
    c.in_ok-behind.ensures.noted) c.in_ok-add_note.ensures
