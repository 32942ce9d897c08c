-- Keys are read call by call: what each call answers goes on from what was read before.
use Rattle.std.proofs.Common.{[], refl, ◌++◌, ◌∷◌, sym, subst}
use Rattle.wap_keys.specs.Read.{GivesSomeBy}
use Rattle.wap_keys.specs.KeyReaders.{HasReadBy}
use Rattle.wap_keys.specs.inside.Taking.{Steps}
use Rattle.wap_keys.proofs.ReaderLaws.{begun_by, given_by}
use Rattle.wap_keys.proofs.ReaderSteps.{then_read, then_ended}
use Rattle.wap_base.proofs.Choices.{on_err}
use Rattle.wap_keys.proofs.reading.read_all.Goals as goal

pub loop-keys-init : goal.loop-keys-init
loop-keys-init g c =
    let start = g.I.Source.seen c.args.source.now in
    let begun : HasReadBy g.T.Says.meaning start start [] [] c.new-reader.result =
    subst (HasReadBy g.T.Says.meaning start start [] []) (sym c.new-reader.ensures.fresh)
    (begun_by g.T.Says.meaning start [] refl) in (
      [],
      subst (λ keys. HasReadBy g.T.Says.meaning start start [] keys c.new-reader.result)
          (sym c.new-keys.ensures.items) begun,
    )

pub loop-keys-preserved : goal.loop-keys-preserved
loop-keys-preserved g c =
    let start = g.I.Source.seen c.args.source.now in
    let now = g.I.Source.seen c.loop-keys.source in
    let last = g.I.Source.seen c.step.new.source in
    let (taken, has) =
    then_read c.loop-keys.invariant c.in-Said.key (subst (Steps g.T.Says.meaning now last
    c.loop-keys.reader c.step.new.self) c.in-Said.is c.in_ok-key.ensures.steps) in (
      taken,
      subst (λ keys. HasReadBy g.T.Says.meaning start last taken keys c.step.new.self)
          (sym c.in_ok-push-in-Said.ensures.items) has,
    )

pub returns-in-Ended-clause-read : goal.returns-in-Ended-clause-read
returns-in-Ended-clause-read g c =
    then_ended c.loop-keys.invariant c.in-Ended.ending
    (subst (Steps g.T.Says.meaning (g.I.Source.seen c.loop-keys.source)
    (g.I.Source.seen c.step.new.source) c.loop-keys.reader c.step.new.self)
    c.in-Ended.is c.in_ok-key.ensures.steps)

pub returns-in_err-push-in-Said-clause-left : goal.returns-in_err-push-in-Said-clause-left
returns-in_err-push-in-Said-clause-left g c =
    let start = g.I.Source.seen c.args.source.now in
    let now = g.I.Source.seen c.loop-keys.source in
    let last = g.I.Source.seen c.step.new.source in
    let (taken, has) =
    then_read c.loop-keys.invariant c.in-Said.key (subst (Steps g.T.Says.meaning now last
    c.loop-keys.reader c.step.new.self) c.in-Said.is c.in_ok-key.ensures.steps) in
    on_err c.from_residual-in_err-push-in-Said.result (GivesSomeBy g.T.Says.meaning start last)
    (taken, c.loop-keys.keys.items ++ c.in-Said.key ∷ [], given_by has)
