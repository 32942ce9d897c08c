use Rattle.std.proofs.Common.{◌≡◌, sym, subst, true, false}
use Rattle.wap_deck.specs.good.Readers.{IsBehind, Leaves, closed, is_end}
use Rattle.wap_deck.specs.good.inside.Nodes.{attr_at}
use Rattle.wap_deck.proofs.GoodLemmas.Ending.{behind_all, behind_on, behind_drop, behind_first}
use Rattle.wap_deck.proofs.GoodLemmas.Ending.{first_leaves, closes_turn, attr_lists, closed_leaves}
use Rattle.wap_deck.proofs.good.skip.after_attrs.Goals as goal

pub loop-rest-init : goal.loop-rest-init
loop-rest-init c = record { exact = λ table end so. so; behind = behind_all c.args.bytes.now }

pub loop-rest-preserved-in-Some : goal.loop-rest-preserved-in-Some
loop-rest-preserved-in-Some c = record {
  exact = λ table end so.
      let more : is_end c.loop-rest.rest.now ≡ false = cc in
      closes_turn (attr_at table)
      (attr_lists table) c.loop-rest.rest.now c.after_attr-rest.result.now end more
      (first_leaves (attr_at table) c.loop-rest.rest.now c.in-Some.mark c.in-Some.behind.now
      c.after_attr-rest.result.now c.in-Some.ensures (c.after_attr-rest.ensures.exact table))
      (c.loop-rest.invariant.exact table end so);
  behind = behind_on c.after_attr-rest.result.now c.loop-rest.rest.now c.args.bytes.now
      (behind_on c.after_attr-rest.result.now c.in-Some.behind.now c.loop-rest.rest.now
      c.after_attr-rest.ensures.behind
      (behind_first c.loop-rest.rest.now c.in-Some.mark c.in-Some.behind.now c.in-Some.ensures))
      c.loop-rest.invariant.behind;
}

pub returns-clause-exact : goal.returns-clause-exact
returns-clause-exact c = λ table.
    let over : is_end c.loop-rest.rest.now ≡ true = cc in
    subst (Leaves (closed (attr_at table)) c.args.bytes.now) (sym c.after_first.ensures)
    (closed_leaves (attr_at table) (attr_lists table) c.args.bytes.now c.loop-rest.rest.now
    (c.loop-rest.invariant.exact table) over)

pub returns-clause-behind : goal.returns-clause-behind
returns-clause-behind c =
    behind_on c.after_first.result.now c.loop-rest.rest.now c.args.bytes.now
    (subst (λ l. IsBehind l c.loop-rest.rest.now) (sym c.after_first.ensures)
    (behind_drop 1 c.loop-rest.rest.now)) c.loop-rest.invariant.behind
