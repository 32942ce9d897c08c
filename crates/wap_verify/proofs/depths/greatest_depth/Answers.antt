use Rattle.std.proofs.Common.{◌≢◌, Err, ap, ◌∙◌, sym}
use Rattle.std.proofs.lemmas.List.{nil_from_length}
use Rattle.std.proofs.lemmas.Result.{err_from_is_err_and}
use Rattle.wap_verify.specs.declared.fault.VerifyFault.{VerifyFault}
use Rattle.wap_verify.specs.declared.fault.VerifyFault.TheVariants.{NoMemory}
use Rattle.wap_verify.specs.Faults.{IsFunctionFault}
use Rattle.wap_verify.specs.inside.Kept.{state}
use Rattle.wap_verify.proofs.Walks.{exit}
use Rattle.wap_verify.proofs.Working.{popped_sane, popped_here, works_on, sound_at_end, room_at_end}
use Rattle.wap_verify.proofs.depths.greatest_depth.Goals as goal

pub visit-requires-clause-sane : goal.visit-requires-clause-sane
visit-requires-clause-sane c =
    popped_sane c.args.unit.now c.args.index c.args.function.now (state c.loop-at.work)
    c.pop.new.self.items c.in-Some.at c.in-Some.values c.loop-at.invariant c.in-Some.ensures.items

pub visit-requires-clause-here : goal.visit-requires-clause-here
visit-requires-clause-here c =
    popped_here c.args.unit.now c.args.index c.args.function.now (state c.loop-at.work)
    c.pop.new.self.items c.in-Some.at c.in-Some.values c.loop-at.invariant c.in-Some.ensures.items

pub loop-at-preserved : goal.loop-at-preserved
loop-at-preserved c =
    works_on c.args.unit.now c.args.index c.args.function.now (state c.loop-at.work)
    c.pop.new.self.items c.in-Some.at c.in-Some.values (state c.visit.new.work)
    c.loop-at.invariant c.in-Some.ensures.items c.in_ok-visit.ensures.visits

pub returns-in_err-visit-clause-fault : goal.returns-in_err-visit-clause-fault
returns-in_err-visit-clause-fault c =
    let left =
    err_from_is_err_and c.from_residual-in_err-visit.result
    c.from_residual-in_err-visit.ensures.1 in
    exit (λ (fault : VerifyFault).
    fault ≢ NoMemory → IsFunctionFault c.args.unit.now c.args.index c.args.function.now fault)
    c.from_residual-in_err-visit.result c.in_err-visit.field-0.0 (left.1 ∙ ap Err left.2)
    c.in_err-visit.ensures.fault

pub returns-clause-sound : goal.returns-clause-sound
returns-clause-sound c =
    sound_at_end c.args.unit.now c.args.index c.args.function.now
    (state c.loop-at.work) c.loop-at.invariant (nil_from_length c.loop-at.work.pending.items
    (sym c.loop-at.work.pending.ok.0 ∙ c.in_default.ensures.cases.0)) c.requires.split

pub returns-clause-room : goal.returns-clause-room
returns-clause-room c =
    room_at_end c.args.unit.now c.args.index c.args.function.now
    (state c.loop-at.work) c.loop-at.invariant (nil_from_length c.loop-at.work.pending.items
    (sym c.loop-at.work.pending.ok.0 ∙ c.in_default.ensures.cases.0))
