use Rattle.std.proofs.Common.{refl}
use Rattle.wap_deck.proofs.GoodLemmas.Ending.{behind_all, behind_on, drop_behind, end_behind}
use Rattle.wap_deck.proofs.GoodLemmas.Ending.{end_shorter, value_on, value_done}
use Rattle.wap_deck.proofs.good.bits.after_bits.Goals as goal

pub loop-behind-init : goal.loop-behind-init
loop-behind-init c = record { exact = λ none. refl; behind = behind_all c.args.bytes.now }

pub loop-behind-smaller : goal.loop-behind-smaller
loop-behind-smaller c = end_shorter c.loop-behind.rest.now c.in-Some.behind.now c.in-Some.ensures

pub loop-behind-preserved : goal.loop-behind-preserved
loop-behind-preserved c =
    let here =
    drop_behind c.in-Some.behind.now c.loop-behind.rest.now
    (end_behind c.loop-behind.rest.now c.in-Some.behind.now c.in-Some.ensures) in
    record {
      exact =
          λ none. value_on c.loop-behind.rest.now c.in-Some.behind.now _ c.in-Some.ensures none
          (c.loop-behind.invariant.exact none);
      behind =
          behind_on c.in-Some.behind.now c.loop-behind.rest.now c.args.bytes.now here
          c.loop-behind.invariant.behind;
    }

pub returns-clause-exact : goal.returns-clause-exact
returns-clause-exact c =
    λ none.
    value_done c.loop-behind.rest.now _ c.in_default.ensures (c.loop-behind.invariant.exact none)
