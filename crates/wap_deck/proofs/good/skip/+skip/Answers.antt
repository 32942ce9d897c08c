use Rattle.std.proofs.Common.{◌≡◌, ◌∙◌, ◌-◌, drop, sym, subst, true, rules, arith}
use Rattle.wap_tokens.specs.markup.Codes.{has_content}
use Rattle.wap_deck.specs.good.Readers.{IsBehind, Leaves, closed, is_end}
use Rattle.wap_deck.specs.good.inside.Nodes.{item_at}
use Rattle.wap_deck.proofs.GoodLemmas.Ending.{behind_all, behind_on, drop_behind, behind_drop}
use Rattle.wap_deck.proofs.GoodLemmas.Ending.{end_behind, behind_of_first, item_text, item_node}
use Rattle.wap_deck.proofs.GoodLemmas.Ending.{node_leaves, none_leaves, list_leaves, no_list_leaves}
use Rattle.wap_deck.proofs.GoodLemmas.Ending.{item_lists, closes_turn, closed_leaves, rest_shorter}
use Rattle.wap_deck.proofs.good.skip.+skip.Goals as goal

pub after_kids-loop-rest-init : goal.after_kids-loop-rest-init
after_kids-loop-rest-init t c =
    record { exact = λ table below least end so. so; behind = behind_all c.args.bytes.now }

pub after_kids-loop-rest-smaller : goal.after_kids-loop-rest-smaller
after_kids-loop-rest-smaller t c =
    rest_shorter c.loop-rest.rest.now c.after_item-rest.result.now
    (search rules) c.after_item-rest.ensures.behind

pub after_kids-loop-rest-preserved : goal.after_kids-loop-rest-preserved
after_kids-loop-rest-preserved t c = record {
  exact = λ table below least end so.
      closes_turn (item_at table below)
      (item_lists table below) c.loop-rest.rest.now c.after_item-rest.result.now end (search rules)
      (c.after_item-rest.ensures.exact table below least)
      (c.loop-rest.invariant.exact table below least end so);
  behind =
      behind_on c.after_item-rest.result.now c.loop-rest.rest.now c.args.bytes.now
      (drop_behind c.after_item-rest.result.now c.loop-rest.rest.now
      c.after_item-rest.ensures.behind) c.loop-rest.invariant.behind;
}

pub after_kids-returns-clause-exact : goal.after_kids-returns-clause-exact
after_kids-returns-clause-exact t c = λ table below least.
    let over : is_end c.loop-rest.rest.now ≡ true = cc in
    subst (Leaves (closed (item_at table below)) c.args.bytes.now) (sym c.after_first.ensures)
    (closed_leaves (item_at table below) (item_lists table below)
    c.args.bytes.now c.loop-rest.rest.now (c.loop-rest.invariant.exact table below least) over)

pub after_kids-returns-clause-behind : goal.after_kids-returns-clause-behind
after_kids-returns-clause-behind t c =
    behind_on c.after_first.result.now c.loop-rest.rest.now c.args.bytes.now
    (subst (λ l. IsBehind l c.loop-rest.rest.now) (sym c.after_first.ensures)
    (behind_drop 1 c.loop-rest.rest.now)) c.loop-rest.invariant.behind

pub after_content-returns-then-not-has_content-clause-exact :
    goal.after_content-returns-then-not-has_content-clause-exact
after_content-returns-then-not-has_content-clause-exact t c = λ table below least some.
    no_list_leaves (has_content c.args.mark) (item_at table (below - 1)) c.args.bytes.now
    (sym c.has_content.ensures ∙ c.if-not-has_content.true)

pub after_content-returns-then-levels-eq0-clause-exact :
    goal.after_content-returns-then-levels-eq0-clause-exact
after_content-returns-then-levels-eq0-clause-exact t c =
    λ table below least some a behind e. absurd (omega arith)

pub after_content-returns-clause-exact : goal.after_content-returns-clause-exact
after_content-returns-clause-exact t c = λ table below least some.
    list_leaves (has_content c.args.mark) (item_at table (below - 1)) c.args.bytes.now
    c.after_kids.result.now (sym c.has_content.ensures ∙ c.if-not-has_content.false)
    (c.after_kids.ensures.exact table (below - 1) (omega arith))

pub after_item-returns-in-Some-clause-exact : goal.after_item-returns-in-Some-clause-exact
after_item-returns-in-Some-clause-exact t c = λ table below least ends.
    item_text table below c.args.bytes.now c.in-Some.rest.now c.after_bits.result.now
    c.in-Some.ensures ends c.after_bits.ensures.exact

pub after_item-returns-in-Some-clause-behind : goal.after_item-returns-in-Some-clause-behind
after_item-returns-in-Some-clause-behind t c =
    behind_on c.after_bits.result.now c.in-Some.rest.now (drop 1 c.args.bytes.now)
    c.after_bits.ensures.behind (end_behind c.args.bytes.now c.in-Some.rest.now c.in-Some.ensures)

pub after_item-returns-in-None-clause-exact : goal.after_item-returns-in-None-clause-exact
after_item-returns-in-None-clause-exact t c = λ table below least ends.
    item_node table below c.args.bytes.now c.after_node.result.now c.in-None.ensures
    (c.after_node.ensures.exact table below least)

pub after_node-returns-in-Some-clause-exact : goal.after_node-returns-in-Some-clause-exact
after_node-returns-in-Some-clause-exact t c = λ table below least.
    node_leaves table below c.args.bytes.now c.in-Some.mark c.in-Some.rest.now
    c.after_head.result.now c.after_content.result.now c.in-Some.ensures
    (c.after_head.ensures.exact table) (c.after_content.ensures.exact table below least)

pub after_node-returns-in-Some-clause-behind : goal.after_node-returns-in-Some-clause-behind
after_node-returns-in-Some-clause-behind t c =
    behind_of_first c.args.bytes.now c.in-Some.mark c.in-Some.rest.now c.after_content.result.now
    c.in-Some.ensures
    (behind_on c.after_content.result.now c.after_head.result.now c.in-Some.rest.now
    c.after_content.ensures.behind c.after_head.ensures.behind)

pub after_node-returns-in-None-clause-exact : goal.after_node-returns-in-None-clause-exact
after_node-returns-in-None-clause-exact t c =
    λ table below least. none_leaves table below c.args.bytes.now _ c.in-None.ensures
