use Rattle.std.proofs.Common.{◌≡◌, ◌<◌, ◌-◌, ℕ, List, refl, sym, ap, subst, ◌∙◌, arith}
use Rattle.wap_execution.specs.Frames.{Function, Frame, code_of}
use Rattle.wap_machine.specs.declared.next.Next.{Next}
use Rattle.wap_machine.specs.declared.script.Script.{Script}
use Rattle.wap_machine.specs.Doing.{StandsFor}
use Rattle.wap_machine.specs.Seen.{function_of}
use Rattle.wap_machine.specs.inside.Goings.{HasGone}
use Rattle.wap_machine.specs.inside.Rounds.{Rounds}
use Rattle.wap_machine.proofs.RoundLaws.{rounds_begin, rounds_more}
use Rattle.wap_machine.proofs.StepLaws.{none_left}
use Rattle.wap_machine.proofs.going.go_round.Goals as goal

-- the code of the script that a frame shares is that of the frame later on
code_stays : (code : List ℕ) (first now : Frame) (shared own : Script) (index : ℕ)
    → code ≡ code_of (function_of shared index) → index ≡ first.function.index → shared ≡ own
    → function_of own first.function.index ≡ first.function → now.function ≡ first.function
    → code ≡ code_of now.function
code_stays code first now shared own index is at same frame_is stays =
    is ∙ ap (λ (i : ℕ). code_of (function_of shared i)) at
    ∙ ap (λ (s : Script). code_of (function_of s first.function.index)) same
    ∙ ap (λ (f : Function). code_of f) frame_is ∙ ap (λ (f : Function). code_of f) (sym stays)

pub loop-script-init : goal.loop-script-init
loop-script-init g c = record {
  rounds =
      rounds_begin g.H.Host.meaning c.args.limits (g.H.Host.turns c.args.host.now)
      c.args.frame.now c.requires.stands;
  turns = omega arith;
  state = λ pages under. refl;
}

pub go_on-requires-clause-code : goal.go_on-requires-clause-code
go_on-requires-clause-code g c =
    let shared : c.deref.result.now ≡ c.script.result.now =
    cc (c.deref.ensures, c.in_ok-script.ensures) in
    code_stays c.code-code.result.now c.args.frame.now c.loop-script.frame c.deref.result.now
    c.script.result.now c.index.result c.code-code.ensures c.index.ensures shared c.script.ensures
    c.loop-script.invariant.rounds.same

pub returns-then-not-turn-clause-rounded : goal.returns-then-not-turn-clause-rounded
returns-then-not-turn-clause-rounded g c =
    let turns = g.H.Host.turns c.loop-script.host in
    let none : turns ≡ 0 = none_left c.turn.result turns c.turn.ensures.some.1 c.if-not-turn.true in
    let left : g.H.Host.turns c.turn.new.self ≡ turns =
    let fewer = c.turn.ensures.turns in
    omega arith in
    record {
      now = c.loop-script.frame;
      rounds =
          subst (λ (n : ℕ). Rounds g.H.Host.meaning c.args.limits (g.H.Host.turns c.args.host.now) n
          c.args.frame.now c.loop-script.frame) (sym left) c.loop-script.invariant.rounds;
      gone =
          subst (λ (n : Next). HasGone c.args.limits.string c.loop-script.frame c.go_on.new.frame n)
          c.in-Back.is c.in_ok-next.ensures.gone;
    }

pub loop-script-preserved : goal.loop-script-preserved
loop-script-preserved g c =
    let turns = g.H.Host.turns c.loop-script.host in
    let left = g.H.Host.turns c.turn.new.self in
    let some : 0 < turns = c.turn.ensures.some.0 c.if-not-turn.false in
    let fewer : left ≡ turns - 1 = c.turn.ensures.turns in
    record {
      rounds =
          rounds_more g.H.Host.meaning c.args.limits (g.H.Host.turns c.args.host.now)
          c.args.frame.now turns left c.loop-script.frame c.go_on.new.frame
          c.loop-script.invariant.rounds
          (subst (λ (n : Next). HasGone c.args.limits.string c.loop-script.frame c.go_on.new.frame
          n) c.in-Back.is c.in_ok-next.ensures.gone)
          (subst (StandsFor c.go_on.new.frame) c.in-Back.is c.in_ok-next.ensures.stands) some fewer;
      turns =
          let before = c.loop-script.invariant.turns in
          omega arith;
      state = λ pages under.
          c.turn.ensures.state pages under ∙ c.loop-script.invariant.state pages under;
    }
