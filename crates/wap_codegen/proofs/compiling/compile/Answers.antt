use Rattle.std.proofs.Common.{Ok, Err, sym, ap, ◌∙◌, subst}
use Rattle.std.proofs.lemmas.Result.{err_from_is_err_and}
use Rattle.wap_base.specs.Outcome.{Meets}
use Rattle.wap_meaning.specs.compiled.Units.{compiled}
use Rattle.wap_meaning.specs.compiled.Accepted.{IsSourceOf}
use Rattle.wap_codegen.specs.declared.fault.CompileFault.TheVariants as faults
use Rattle.wap_codegen.proofs.Causes.{unit_cause, no_fault, only_answer}
use Rattle.wap_codegen.proofs.Whole.{accepted, have_forms, unit_spelled, unit_verified}
use Rattle.wap_codegen.proofs.compiling.compile.Goals as goal

pub returns-in_err-scoped-clause-only : goal.returns-in_err-scoped-clause-only
returns-in_err-scoped-clause-only c = λ program is.
    let left = err_from_is_err_and c.from_residual.result c.from_residual.ensures.1 in
    subst (λ result. Meets faults.NoMemory (λ unit. unit) result (Ok (compiled program)))
    (sym (left.1 ∙ ap Err left.2))
    (no_fault c.args.src.now program is c.in_err-scoped.field-0.0 c.in_err-scoped.ensures.fault)

pub unit_of-requires-clause-forms : goal.unit_of-requires-clause-forms
unit_of-requires-clause-forms c =
    have_forms c.args.src.now c.program.result.now
    (subst (IsSourceOf c.args.src.now) (sym c.program.ensures.same) c.in_ok-scoped.ensures.found)
    c.program.ensures.scoped

pub returns-in_err-unit-clause-only : goal.returns-in_err-unit-clause-only
returns-in_err-unit-clause-only c = λ program is.
    let left = err_from_is_err_and c.from_residual-in_err-unit.result
    c.from_residual-in_err-unit.ensures.1 in
    subst (λ result. Meets faults.NoMemory (λ unit. unit) result (Ok (compiled program)))
    (sym (left.1 ∙ ap Err left.2))
    (no_fault c.args.src.now program is c.in_err-unit.field-0.0
    (unit_cause c.args.src.now c.program.result.now
    (subst (IsSourceOf c.args.src.now) (sym c.program.ensures.same) c.in_ok-scoped.ensures.found)
    c.program.ensures.scoped c.in_err-unit.field-0.0 c.in_err-unit.ensures.fault))

pub verified_of-requires-clause-spelled : goal.verified_of-requires-clause-spelled
verified_of-requires-clause-spelled c =
    unit_spelled c.args.src.now c.program.result.now
    (accepted c.args.src.now c.program.result.now c.requires
    (subst (IsSourceOf c.args.src.now) (sym c.program.ensures.same) c.in_ok-scoped.ensures.found)
    c.program.ensures.scoped c.in_ok-unit.ensures.room)
    c.in_ok-unit.unit c.in_ok-unit.ensures.found

pub verified_of-requires-clause-verified : goal.verified_of-requires-clause-verified
verified_of-requires-clause-verified c =
    unit_verified c.args.src.now c.program.result.now
    (accepted c.args.src.now c.program.result.now c.requires
    (subst (IsSourceOf c.args.src.now) (sym c.program.ensures.same) c.in_ok-scoped.ensures.found)
    c.program.ensures.scoped c.in_ok-unit.ensures.room)
    c.in_ok-unit.unit c.in_ok-unit.ensures.found

pub returns-clause-only : goal.returns-clause-only
returns-clause-only c =
    only_answer c.args.src.now c.program.result.now
    (accepted c.args.src.now c.program.result.now c.requires
    (subst (IsSourceOf c.args.src.now) (sym c.program.ensures.same) c.in_ok-scoped.ensures.found)
    c.program.ensures.scoped c.in_ok-unit.ensures.room)
    c.in_ok-unit.unit c.in_ok-unit.ensures.found c.verified_of.result c.verified_of.ensures.kept
    c.verified_of.ensures.fault
