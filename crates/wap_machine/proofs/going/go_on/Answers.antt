use Rattle.std.proofs.Common.{[], ◌∙◌, ap, refl, subst, sym}
use Rattle.wap_execution.specs.Frames.{Function, Frame, code_of}
use Rattle.wap_machine.specs.declared.next.Next.{Next}
use Rattle.wap_machine.specs.Doing.{EndsOrActs}
use Rattle.wap_machine.specs.inside.Goings.{GoesOn}
use Rattle.wap_machine.proofs.GoingLaws.{went_on, passed_more, on_falls}
use Rattle.wap_machine.proofs.going.go_on.Goals as goal

pub loop-next-init : goal.loop-next-init
loop-next-init c = record { frames = []; are = refl; same = refl; stands = c.requires.stands }

pub act-requires-clause-code : goal.act-requires-clause-code
act-requires-clause-code c =
    c.requires.code ∙ ap (λ (f : Function). code_of f) (sym c.loop-next.invariant.same)

pub loop-next-preserved : goal.loop-next-preserved
loop-next-preserved c =
    let now : Frame = c.loop-next.frame in
    let one : GoesOn c.args.string now c.act.new.frame =
    went_on c.args.string now c.act.new.frame (subst (λ (n : Next).
    EndsOrActs c.args.string now c.act.new.frame n) c.in-Onward.is c.in_ok-next.ensures.acts) in
    passed_more c.args.string c.args.frame.now now c.act.new.frame
    c.loop-next.invariant one.within one.acts

pub loop-next-smaller : goal.loop-next-smaller
loop-next-smaller c =
    let now : Frame = c.loop-next.frame in
    let one : GoesOn c.args.string now c.act.new.frame =
    went_on c.args.string now c.act.new.frame (subst (λ (n : Next).
    EndsOrActs c.args.string now c.act.new.frame n) c.in-Onward.is c.in_ok-next.ensures.acts) in
    on_falls c.args.string now c.act.new.frame one.acts one.within

pub returns-in_default-clause-gone : goal.returns-in_default-clause-gone
returns-in_default-clause-gone c =
    record {
      now = c.loop-next.frame;
      passed = c.loop-next.invariant;
      last = c.in_ok-next.ensures.acts;
    }
