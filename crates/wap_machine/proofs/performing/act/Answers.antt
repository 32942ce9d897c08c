use Rattle.std.proofs.Common.{◌≡◌, ◌≢◌, ◌<◌, ℕ, List, Option, length}
use Rattle.std.proofs.Common.{ap, sym, subst, ◌∙◌}
use Rattle.std.specs.Prelude.{IfSome, IfNone}
use Rattle.std.proofs.lemmas.Result.{IfOk-weaker}
use Rattle.wap_execution.specs.Frames.{Frame, code_of}
use Rattle.wap_execution.specs.Effects.{effect_read}
use Rattle.wap_machine.specs.declared.next.Next.{Next}
use Rattle.wap_machine.specs.declared.next.Course.{Course}
use Rattle.wap_machine.specs.Standing.{Stands, Fits}
use Rattle.wap_machine.specs.Doing.{Does, EndsOrActs, has_ended, has_acted, StandsFor}
use Rattle.wap_machine.specs.inside.InstructionParts.{IsDone, Leaves, next_of, Stays}
use Rattle.wap_machine.proofs.Ready.{fits_here, acts, inside_of, stands_for}
use Rattle.wap_machine.proofs.performing.act.Goals as goal

-- a frame that isn't at its code's end
within_at : (before : Frame) (code : List ℕ) (place : ℕ) → Stands before 0
    → code ≡ code_of before.function → place ≡ before.place → place ≢ length code
    → before.place < length (code_of before.function)
within_at before code place stands same at apart =
    inside_of before 0 stands (λ e. apart (at ∙ e ∙ ap length (sym same)))

-- where the instruction was done, the frame stands
acted_stands : (string : ℕ) (before after : Frame) (next : Next)
    → EndsOrActs string before after next → StandsFor after next
acted_stands string before after next (has_ended place gives_empty) =
    subst (StandsFor after) (sym gives_empty) tt
acted_stands string before after next (has_acted within acts) =
    stands_for string before after next acts

pub stay-requires-clause-fits : goal.stay-requires-clause-fits
stay-requires-clause-fits c =
    let before : Frame = c.args.frame.now in
    let within =
    within_at before c.args.code.now c.place.result c.requires.stands c.requires.code
    c.place.ensures c.if-place-code.false in
    subst (Fits before) (c.instruction-action.ensures.effect c.args.string)
    (fits_here c.args.string before c.requires.stands
    within)

pub leave-requires-clause-fits : goal.leave-requires-clause-fits
leave-requires-clause-fits c =
    let before : Frame = c.args.frame.now in
    let within =
    within_at before c.args.code.now c.place.result c.requires.stands c.requires.code
    c.place.ensures c.if-place-code.false in
    let leaves = subst (λ (o : Option Course). IfNone o
    (Leaves c.instruction-action.result.0 × (c.stay.new.frame ≡ before))) c.in-None.is
    c.in_ok-course.ensures.leaves in
    subst (λ (f : Frame). Fits f
    (effect_read 0 f c.instruction-action.result.0 c.instruction-action.result.1)) (sym leaves.1)
    (subst (Fits before) (c.instruction-action.ensures.effect 0)
    (fits_here 0 before c.requires.stands within))

pub returns-in-Some-clause-acts : goal.returns-in-Some-clause-acts
returns-in-Some-clause-acts c =
    let before : Frame = c.args.frame.now in
    let after : Frame = c.stay.new.frame in
    let within =
    within_at before c.args.code.now c.place.result c.requires.stands c.requires.code
    c.place.ensures c.if-place-code.false in
    let does = subst (λ (o : Option Course). IfSome o (Stays before
    (effect_read c.args.string before c.instruction-action.result.0
    c.instruction-action.result.1) after)) c.in-Some.is
    c.in_ok-course.ensures.done in
    subst (λ (n : Next). EndsOrActs c.args.string before after n) (sym c.next.ensures)
    (has_acted within (acts c.args.string before after (next_of c.in-Some.course)
    c.instruction-action.result.0 c.instruction-action.result.1 c.instruction-action.ensures
    c.requires.stands within does))

pub returns-in-Some-clause-stands : goal.returns-in-Some-clause-stands
returns-in-Some-clause-stands c =
    acted_stands c.args.string c.args.frame.now c.stay.new.frame c.next.result
    (returns-in-Some-clause-acts c)

pub returns-in-None-clause-acts : goal.returns-in-None-clause-acts
returns-in-None-clause-acts c =
    let before : Frame = c.args.frame.now in
    let after : Frame = c.leave.new.frame in
    let within =
    within_at before c.args.code.now c.place.result c.requires.stands c.requires.code
    c.place.ensures c.if-place-code.false in
    let leaves = subst (λ (o : Option Course). IfNone o
    (Leaves c.instruction-action.result.0 × (c.stay.new.frame ≡ before))) c.in-None.is
    c.in_ok-course.ensures.leaves in
    IfOk-weaker c.leave.result (λ next. (string : ℕ) → IsDone c.stay.new.frame (effect_read string
    c.stay.new.frame c.instruction-action.result.0 c.instruction-action.result.1) after next)
    (EndsOrActs c.args.string before after)
    (λ next does. has_acted within (acts c.args.string before after next
    c.instruction-action.result.0 c.instruction-action.result.1 c.instruction-action.ensures
    c.requires.stands within (subst (λ (f : Frame). Does (effect_read c.args.string f
    c.instruction-action.result.0 c.instruction-action.result.1) f.function after next)
    leaves.1 (does c.args.string)))) c.leave.ensures.done

pub returns-in-None-clause-stands : goal.returns-in-None-clause-stands
returns-in-None-clause-stands c =
    IfOk-weaker c.leave.result (EndsOrActs c.args.string c.args.frame.now c.leave.new.frame)
    (StandsFor c.leave.new.frame)
    (acted_stands c.args.string c.args.frame.now c.leave.new.frame)
    (returns-in-None-clause-acts c)
