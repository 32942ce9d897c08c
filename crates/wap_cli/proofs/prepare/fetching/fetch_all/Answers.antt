use Rattle.std.proofs.Common.{◌∙◌, ℕ, ◌+◌, List, [], ◌∷◌, ◌++◌, take, length, sym, ap, arith, ap₂}
use Rattle.std.specs.Map.{keys_of}
use Rattle.std.proofs.lemmas.List.{map-append, take_more}
use Rattle.wap_cli.specs.prepare.Fetching.{Job}
use Rattle.wap_cli.proofs.PrepareLemmas.Asking.{asked_more, more_fail, then_memory, memory_over}
use Rattle.wap_cli.proofs.PrepareLemmas.Asking.{answered_more}
use Rattle.wap_cli.proofs.prepare.fetching.fetch_all.Goals as goal

pub returns-in_err-push-in-Ok-fetch_one-clause-asks :
    goal.returns-in_err-push-in-Ok-fetch_one-clause-asks
returns-in_err-push-in-Ok-fetch_one-clause-asks g c =
    let i = c.loop-name.name-index in
    let old = g.S.Store.seen c.args.store.now in
    let new = g.S.Store.seen c.fetch_one.new.store in
    memory_over _ (length c.args.names.now) old new c.from_residual.result
    (then_memory (i + 1) (length c.args.names.now) old new
    (asked_more i old (g.S.Store.seen c.loop-name.store) new c.loop-name.invariant.asked 1
    c.in-Ok-fetch_one.job c.in-Ok-fetch_one.ensures.asks) (omega arith)) c.from_residual.ensures.0
    c.from_residual.ensures.1

pub returns-in-Err-fetch_one-clause-asks : goal.returns-in-Err-fetch_one-clause-asks
returns-in-Err-fetch_one-clause-asks g c =
    more_fail c.loop-name.name-index (g.S.Store.seen c.args.store.now)
    (g.S.Store.seen c.loop-name.store) (g.S.Store.seen c.fetch_one.new.store)
    c.loop-name.invariant.asked 1 (length c.args.names.now) (omega arith) c.in-Err-fetch_one.fault
    c.in-Err-fetch_one.ensures.asks

pub loop-name-preserved : goal.loop-name-preserved
loop-name-preserved g c =
    let i = c.loop-name.name-index in
    let old = g.S.Store.seen c.args.store.now in
    let now = g.S.Store.seen c.loop-name.store in
    let new = g.S.Store.seen c.fetch_one.new.store in
    let job : Job = c.in-Ok-fetch_one.job in
    let jobs : List Job = c.loop-name.jobs.items in
    let pushed = c.in_ok-push-in-Ok-fetch_one.ensures.items in
    record {
      names =
          ap keys_of pushed ∙ map-append (λ (one : Job). one.0) jobs (job ∷ [])
          ∙ ap₂ (λ (names : List (List ℕ)) (name : List ℕ). names ++ name ∷ [])
          c.loop-name.invariant.names c.in-Ok-fetch_one.ensures.name
          ∙ sym (take_more c.args.names.now i c.name-item.result (omega arith)
          ∙ ap (λ (name : List ℕ). take i c.args.names.now ++ name ∷ []) (sym c.name-item.is));
      answered =
          answered_more now.known new.known jobs c.push.new.self.items job
          c.in-Ok-fetch_one.ensures.asks.known c.loop-name.invariant.answered
          c.in-Ok-fetch_one.ensures.answered pushed;
      asked =
          asked_more i old now new c.loop-name.invariant.asked 1 job
          c.in-Ok-fetch_one.ensures.asks;
    }
