use Rattle.std.proofs.Common.{◌∙◌, sym, subst}
use Rattle.wap_deck.specs.good.Readers.{IsBehind, Leaves, closed}
use Rattle.wap_deck.specs.good.inside.Nodes.{attr_at}
use Rattle.wap_deck.proofs.GoodLemmas.Ending.{behind_all, behind_on, behind_drop, attr_lists}
use Rattle.wap_deck.proofs.GoodLemmas.Ending.{closes_ends, closes_on, closed_leaves}
use Rattle.wap_deck.proofs.GoodLemmas.HeadLaw.{none_passed, one_passed, all_passed, lacks_none}
use Rattle.wap_deck.proofs.good.heads.names_in.Goals as goal

pub loop-name-init : goal.loop-name-init
loop-name-init c = record {
  passed = none_passed c.args.bytes.now;
  exact = λ table end so. so;
  behind = behind_all c.args.bytes.now;
}

pub loop-name-preserved : goal.loop-name-preserved
loop-name-preserved c = record {
  passed =
      rw c.name_mark-names.ensures
      (one_passed c.args.bytes.now c.loop-name.names c.loop-name.rest.now c.in-Some.name
      c.in-Some.behind.now c.loop-name.invariant.passed c.in-Some.ensures.named);
  exact = λ table end so.
      let next = attr_at table in
      let here = c.loop-name.invariant.exact table end so in
      let ends = closes_ends next (attr_lists table) c.loop-name.rest.now end here in
      let read = c.in-Some.ensures.named table ends in
      closes_on next (attr_lists table) c.loop-name.rest.now (c.in-Some.name, read.0)
      c.in-Some.behind.now end read.1 here;
  behind =
      behind_on c.in-Some.behind.now c.loop-name.rest.now c.args.bytes.now
      c.in-Some.ensures.behind c.loop-name.invariant.behind;
}

pub returns-then-is_end-clause-names : goal.returns-then-is_end-clause-names
returns-then-is_end-clause-names c =
    all_passed c.args.bytes.now c.loop-name.names c.loop-name.rest.now
    c.loop-name.invariant.passed (sym c.is_end.ensures ∙ c.if-is_end.true)

pub returns-then-is_end-clause-exact : goal.returns-then-is_end-clause-exact
returns-then-is_end-clause-exact c = λ table.
    subst (Leaves (closed (attr_at table)) c.args.bytes.now) (sym c.after_first.ensures)
    (closed_leaves (attr_at table) (attr_lists table) c.args.bytes.now c.loop-name.rest.now
    (c.loop-name.invariant.exact table) (sym c.is_end.ensures ∙ c.if-is_end.true))

pub returns-then-is_end-clause-behind : goal.returns-then-is_end-clause-behind
returns-then-is_end-clause-behind c =
    behind_on c.after_first.result.now c.loop-name.rest.now c.args.bytes.now
    (subst (λ l. IsBehind l c.loop-name.rest.now) (sym c.after_first.ensures)
    (behind_drop 1 c.loop-name.rest.now)) c.loop-name.invariant.behind

pub returns-else-is_end-clause-names : goal.returns-else-is_end-clause-names
returns-else-is_end-clause-names c = λ table name ends without. absurd (lacks_none name without)
