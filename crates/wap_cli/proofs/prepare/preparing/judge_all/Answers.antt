use Rattle.std.proofs.Common.{◌≡◌, ◌+◌, ◌-◌, ◌++◌, ℕ, List, length, All, sym, ap, subst, arith}
use Rattle.std.specs.Map.{keys_of}
use Rattle.std.proofs.lemmas.List.Elements.{All-nil}
use Rattle.wap_cli.specs.prepare.Reports.{Entry, IsEntry}
use Rattle.wap_cli.proofs.PrepareLemmas.Asking.{Asked, asked_more, more_fail, then_memory}
use Rattle.wap_cli.proofs.PrepareLemmas.Asking.{none_asked, memory_over}
use Rattle.wap_cli.proofs.PrepareLemmas.Entries.{parts_together, left_after, right_after}
use Rattle.wap_cli.proofs.prepare.preparing.judge_all.Goals as goal

pub loop-left-init : goal.loop-left-init
loop-left-init g c =
    let names = c.args.names.now in
    let old = g.S.Store.seen c.args.store.now in
    let nothing = c.new-entries.ensures.items in
    let none : 0 ≡ length names - length names = omega arith in
    record {
      names = ap (λ (l : List Entry). keys_of l ++ names) nothing;
      within = omega arith;
      right = subst (All (IsEntry old.known)) (sym nothing) (All-nil (IsEntry old.known));
      asked = subst (λ (n : ℕ). Asked n old old) none (none_asked old);
    }

pub returns-in_err-append-in-Ok-clause-asks : goal.returns-in_err-append-in-Ok-clause-asks
returns-in_err-append-in-Ok-clause-asks g c =
    let all = length c.args.names.now in
    let some = c.split_at.result.0.now in
    let gone = all - length c.loop-left.left.now in
    let old = g.S.Store.seen c.args.store.now in
    let new = g.S.Store.seen c.judge_some.new.store in
    let parts = parts_together some c.loop-left.left.now c.split_at.result.1.now c.min.result
    c.split_at.ensures.front c.split_at.ensures.back in
    let within = c.loop-left.invariant.within in
    memory_over _ all old new c.from_residual.result
    (then_memory (gone + length some) all old new
    (asked_more gone old (g.S.Store.seen c.loop-left.store) new c.loop-left.invariant.asked
    (length some) c.in-Ok.more c.in-Ok.ensures.asks) (omega (arith, parts, within)))
    c.from_residual.ensures.0 c.from_residual.ensures.1

pub returns-in-Err-clause-asks : goal.returns-in-Err-clause-asks
returns-in-Err-clause-asks g c =
    let all = length c.args.names.now in
    let some = c.split_at.result.0.now in
    let parts = parts_together some c.loop-left.left.now c.split_at.result.1.now c.min.result
    c.split_at.ensures.front c.split_at.ensures.back in
    let within = c.loop-left.invariant.within in
    more_fail (all - length c.loop-left.left.now) (g.S.Store.seen c.args.store.now)
    (g.S.Store.seen c.loop-left.store) (g.S.Store.seen c.judge_some.new.store)
    c.loop-left.invariant.asked (length some) all (omega (arith, parts, within)) c.in-Err.fault
    c.in-Err.ensures.asks

pub loop-left-preserved : goal.loop-left-preserved
loop-left-preserved g c =
    let all = length c.args.names.now in
    let some = c.split_at.result.0.now in
    let left = c.loop-left.left.now in
    let rest = c.split_at.result.1.now in
    let gone = all - length left in
    let old = g.S.Store.seen c.args.store.now in
    let now = g.S.Store.seen c.loop-left.store in
    let new = g.S.Store.seen c.judge_some.new.store in
    let so_far = c.loop-left.invariant in
    let together = c.in_ok-append-in-Ok.ensures.items in
    let parts = parts_together some left rest c.min.result c.split_at.ensures.front
    c.split_at.ensures.back in
    let within = so_far.within in
    let count : gone + length some ≡ all - length rest = omega (arith, parts, within) in
    record {
      names =
          left_after c.loop-left.entries.items c.in-Ok.more.items c.append.new.self.items some left
          rest c.args.names.now c.min.result so_far.names c.split_at.ensures.front
          c.split_at.ensures.back c.in-Ok.ensures.names together;
      within = omega (arith, parts, within);
      right =
          right_after now.known new.known c.loop-left.entries.items c.in-Ok.more.items
          c.append.new.self.items c.in-Ok.ensures.asks.known so_far.right c.in-Ok.ensures.right
          together;
      asked =
          subst (λ (n : ℕ). Asked n old new) count
          (asked_more gone old now new so_far.asked (length some) c.in-Ok.more
          c.in-Ok.ensures.asks);
    }
