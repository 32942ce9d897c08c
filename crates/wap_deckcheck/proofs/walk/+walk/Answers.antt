use Rattle.std.proofs.Common.{◌∙◌, ap, sym, Err, ◌<◌, ◌-◌, [], ◌++◌, List, refl, arith}
use Rattle.std.proofs.lemmas.Result.{err_from_is_err_and}
use Rattle.std.proofs.lemmas.Bool.Decides.{nat_tests}
use Rattle.std.proofs.lemmas.List.{append-nil}
use Rattle.wap_tokens.specs.markup.Good.{Rule}
use Rattle.wap_tokens.specs.declared.markup.deck.Item.{Item}
use Rattle.wap_deckcheck.specs.Places.{own_name, names_level, node_places, items_places}
use Rattle.wap_deckcheck.specs.inside.Walks.{judged}
use Rattle.wap_deckcheck.specs.declared.walk.Walk.{Walk}
use Rattle.wap_deckcheck.proofs.Walking.{exits, exits_own, walked_node, no_deeper, deeper}
use Rattle.wap_deckcheck.proofs.Walking.{names_none, turn_faulty}
use Rattle.wap_deckcheck.proofs.Walking.{turn_faultless, turn_reached, turn_names}
use Rattle.wap_deckcheck.proofs.walk.+walk.Goals as goal

pub judge_item-returns-in_err-judge_node-in-Node-clause-faults :
    goal.judge_item-returns-in_err-judge_node-in-Node-clause-faults
judge_item-returns-in_err-judge_node-in-Node-clause-faults t c =
    let left = err_from_is_err_and c.from_residual.result c.from_residual.ensures.1 in
    exits_own (own_name c.args.apart) (node_places c.args.levels c.args.apart)
    c.args.walk.now.names c.args.walk.now.path c.args.item.now c.in-Node.node c.from_residual.result
    c.in_err-judge_node-in-Node.field-0.0 c.in-Node.is
    (left.1 ∙ ap Err left.2) c.in_err-judge_node-in-Node.ensures

pub judge_item-returns-in_ok-take_name-in-Node-clause-walked :
    goal.judge_item-returns-in_ok-take_name-in-Node-clause-walked
judge_item-returns-in_ok-take_name-in-Node-clause-walked t c =
    walked_node c.args.apart c.args.levels c.args.item.now c.in-Node.node c.judge_kids.result
    c.args.walk.now c.take_name.new.walk c.judge_kids.new.walk c.own_name.result c.in-Node.is
    c.own_name.ensures c.in_ok-take_name-in-Node.ensures.taken c.judge_kids.ensures.walked

pub judge_kids-returns-then-levels-eq0-clause-faults :
    goal.judge_kids-returns-then-levels-eq0-clause-faults
judge_kids-returns-then-levels-eq0-clause-faults t c =
    ap (λ levels. judged (node_places levels c.args.apart c.args.walk.now.names c.args.walk.now.path
    c.args.node.now)) c.if-levels-eq0.true
    ∙ no_deeper c.args.apart c.args.walk.now.names c.args.walk.now.path c.args.node.now

pub judge_kids-loop-number-init : goal.judge_kids-loop-number-init
judge_kids-loop-number-init t c =
    let some : 0 < c.args.levels = omega arith in
    let level =
    names_level (node_places (c.args.levels - 1) c.args.apart)
    c.args.apart c.args.levels c.args.walk.now.names in
    record {
      path = refl;
      names =
          sym (ap (λ names. c.args.walk.now.names ++ names) (names_none c.args.apart c.args.levels)
          ∙ append-nil c.args.walk.now.names);
      reached = λ place. grind (arith, nat_tests);
      faults =
          sym (ap judged (deeper c.args.levels c.args.apart c.args.walk.now.names
          c.args.walk.now.path c.args.node.now some ∙
          ap (λ (rule : Rule). items_places level c.args.walk.now.path rule [] c.args.node.now.kids)
          (sym c.requires)
          ∙ ap (λ (kids : List Item). items_places level c.args.walk.now.path c.args.rule.now []
          kids) (sym c.as_slice-kids.ensures)));
    }

pub judge_kids-returns-in_err-reached-clause-faults :
    goal.judge_kids-returns-in_err-reached-clause-faults
judge_kids-returns-in_err-reached-clause-faults t c =
    let left = err_from_is_err_and c.from_residual.result c.from_residual.ensures.1 in
    let level =
    names_level (node_places (c.args.levels - 1) c.args.apart)
    c.args.apart c.args.levels c.args.walk.now.names in
    exits c.from_residual.result c.in_err-reached.field-0.0 _ (left.1 ∙ ap Err left.2)
    (λ other.
    turn_faulty c.as_slice-kids.result.now c.loop-number.number c.index-kids-number.result
    c.loop-number-test.true c.index-kids-number.is level c.args.walk.now.path
    c.loop-number.walk.path c.loop-number.walk.names c.args.rule.now _ c.in_err-reached.field-0.0
    c.loop-number.invariant.path c.loop-number.invariant.names c.loop-number.invariant.faults
    (c.in_err-reached.ensures.faults other))

pub judge_kids-loop-number-preserved : goal.judge_kids-loop-number-preserved
judge_kids-loop-number-preserved t c =
    let some : 0 < c.args.levels = omega arith in
    let kids = c.as_slice-kids.result.now in
    let level =
    names_level (node_places (c.args.levels - 1) c.args.apart)
    c.args.apart c.args.levels c.args.walk.now.names in
    let walked = c.in_ok-reached.ensures.walked in
    record {
      path = ap (λ (walk : Walk). walk.path) walked ∙ c.loop-number.invariant.path;
      names =
          ap (λ (walk : Walk). walk.names) walked
          ∙ turn_names kids c.loop-number.number c.index-kids-number.result c.loop-number-test.true
          c.index-kids-number.is c.args.apart c.args.levels c.args.walk.now.names
          c.loop-number.walk.names some c.loop-number.invariant.names;
      reached =
          turn_reached kids c.loop-number.number c.index-kids-number.result c.loop-number-test.true
          c.index-kids-number.is c.args.rule.now c.in_ok-reached.reached
          c.in_ok-reached.ensures.reached;
      faults =
          turn_faultless kids c.loop-number.number c.index-kids-number.result
          c.loop-number-test.true c.index-kids-number.is level c.args.walk.now.path
          c.loop-number.walk.path c.loop-number.walk.names c.args.rule.now _
          c.loop-number.invariant.path c.loop-number.invariant.names c.loop-number.invariant.faults
          c.in_ok-reached.ensures.faults;
    }
