-- Turn after turn goes on from what was read before.
use Rattle.std.proofs.Common.{ap, subst, sym, ◌∙◌, arith}
use Rattle.wap_keys.specs.KeyReaders.{Reading}
use Rattle.wap_keys.specs.inside.Taking.{Turns, Loses}
use Rattle.wap_keys.proofs.ReaderSteps.{keeps_then, then_gives_up, then_steps, over_steps}
use Rattle.wap_keys.proofs.ReaderSteps.{none_left}
use Rattle.wap_base.proofs.Choices.{on_err}
use Rattle.wap_keys.proofs.reader.Reader.step.Goals as goal

pub returns-in_err-step-clause-lost : goal.returns-in_err-step-clause-lost
returns-in_err-step-clause-lost g c =
    on_err c.from_residual.result (Loses g.T.Says.meaning (g.I.Source.seen c.args.source.now)
    (g.I.Source.seen c.turn.new.source) c.args.self.now) (record {
      gives_up = then_gives_up c.loop-self.invariant.keeps c.in_err-step.ensures.lost.gives_up;
      steady = c.in_err-step.ensures.lost.steady ∙ c.loop-self.invariant.steady;
    })

pub loop-self-preserved : goal.loop-self-preserved
loop-self-preserved g c =
    let goes = subst (Turns g.T.Says.meaning (g.I.Source.seen c.loop-self.source)
    (g.I.Source.seen c.turn.new.source) c.loop-self.self c.turn.new.self)
    (none_left c.in_ok-step.field-0 c.in_default.not-Some) c.in_ok-step.ensures.turns in
    record {
      keeps = keeps_then c.loop-self.invariant.keeps goes.keeps;
      few = omega (arith, goes.few, c.loop-self.invariant.few);
      steady = goes.steady ∙ c.loop-self.invariant.steady;
    }

pub returns-in-Some-clause-steps : goal.returns-in-Some-clause-steps
returns-in-Some-clause-steps g c =
    then_steps c.loop-self.invariant.keeps c.loop-self.invariant.few c.loop-self.invariant.steady
    (subst (Turns g.T.Says.meaning (g.I.Source.seen c.loop-self.source)
    (g.I.Source.seen c.turn.new.source) c.loop-self.self c.turn.new.self) c.in-Some.is
    c.in_ok-step.ensures.turns)

pub returns-clause-steps : goal.returns-clause-steps
returns-clause-steps g c =
    then_steps c.loop-self.invariant.keeps c.loop-self.invariant.few c.loop-self.invariant.steady
    (over_steps g.T.Says.meaning (g.I.Source.seen c.loop-self.source) c.loop-self.self
    (ap (λ (r : Reading). r.over) (sym c.self.view_is) ∙ c.loop-self-test.false))
