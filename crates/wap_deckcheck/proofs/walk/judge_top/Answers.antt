use Rattle.std.proofs.Common.{◌∙◌, ap, Err, [], List, arith}
use Rattle.std.proofs.lemmas.Result.{err_from_is_err_and}
use Rattle.std.proofs.lemmas.Bool.Decides.{nat_tests}
use Rattle.wap_tokens.specs.markup.Good.{Rule, rule_of}
use Rattle.wap_tokens.specs.declared.markup.deck.Item.{Item}
use Rattle.wap_deckcheck.specs.Places.{ids_level, items_places}
use Rattle.wap_deckcheck.specs.inside.Walks.{judged}
use Rattle.wap_deckcheck.specs.declared.walk.Walk.{Walk}
use Rattle.wap_deckcheck.proofs.Walking.{exits, turn_faulty, turn_faultless, turn_reached, turn_ids}
use Rattle.wap_deckcheck.proofs.walk.judge_top.Goals as goal

pub loop-number-init : goal.loop-number-init
loop-number-init c = record {
  path = c.new-path.ensures;
  names = c.new-names.ensures;
  reached = λ place. grind (arith, nat_tests);
  faults =
      ap (λ (rule : Rule). judged (items_places ids_level [] rule [] c.as_slice-kids.result.now))
      c.of-rule.ensures
      ∙ ap (λ (kids : List Item).
      judged (items_places ids_level [] (rule_of c.args.root.now.tag) [] kids))
      c.as_slice-kids.ensures;
}

pub returns-in_err-reached : goal.returns-in_err-reached
returns-in_err-reached c =
    let left = err_from_is_err_and c.from_residual.result c.from_residual.ensures.1 in
    exits c.from_residual.result c.in_err-reached.field-0.0 _ (left.1 ∙ ap Err left.2)
    (λ other.
    turn_faulty c.as_slice-kids.result.now c.loop-number.number c.index-kids-number.result
    c.loop-number-test.true c.index-kids-number.is ids_level [] c.loop-number.walk.path
    c.loop-number.walk.names c.of-rule.result _ c.in_err-reached.field-0.0
    c.loop-number.invariant.path c.loop-number.invariant.names c.loop-number.invariant.faults
    (c.in_err-reached.ensures.faults other))

pub loop-number-preserved : goal.loop-number-preserved
loop-number-preserved c =
    let kids = c.as_slice-kids.result.now in
    let walked = c.in_ok-reached.ensures.walked in
    record {
      path = ap (λ (walk : Walk). walk.path) walked ∙ c.loop-number.invariant.path;
      names =
          ap (λ (walk : Walk). walk.names) walked
          ∙ turn_ids kids c.loop-number.number c.index-kids-number.result c.loop-number-test.true
          c.index-kids-number.is c.loop-number.walk.names c.loop-number.invariant.names;
      reached =
          turn_reached kids c.loop-number.number c.index-kids-number.result c.loop-number-test.true
          c.index-kids-number.is c.of-rule.result c.in_ok-reached.reached
          c.in_ok-reached.ensures.reached;
      faults =
          turn_faultless kids c.loop-number.number c.index-kids-number.result
          c.loop-number-test.true c.index-kids-number.is ids_level [] c.loop-number.walk.path
          c.loop-number.walk.names c.of-rule.result _ c.loop-number.invariant.path
          c.loop-number.invariant.names c.loop-number.invariant.faults
          c.in_ok-reached.ensures.faults;
    }
