use Rattle.std.proofs.Common.{Ok, Err, sym, ap, ◌∙◌, subst}
use Rattle.std.proofs.lemmas.Result.{err_from_is_err_and}
use Rattle.wap_base.specs.Outcome.{Meets}
use Rattle.wap_meaning.specs.compiled.Units.{compiled}
use Rattle.wap_pages.specs.declared.fault.PageErr.TheVariants as error
use Rattle.wap_pages.proofs.Memory.{source_fault}
use Rattle.wap_pages.proofs.Refusing.{source_only, source_refused, ok_is, err_is}
use Rattle.wap_pages.proofs.reading.compiled_in.Goals as goal

pub returns-in_err-compile-clause-only : goal.returns-in_err-compile-clause-only
returns-in_err-compile-clause-only c = λ p is.
    let left = err_from_is_err_and c.from_residual.result c.from_residual.ensures.1 in
    subst (λ result. Meets error.NoMemory (λ unit. unit) result (Ok (compiled p)))
    (sym (left.1 ∙ ap Err left.2))
    (source_only c.args.bytes.now c.in_err-compile.field-0.0 p (c.in_err-compile.ensures.only p is))

pub returns-in_err-compile-clause-refused : goal.returns-in_err-compile-clause-refused
returns-in_err-compile-clause-refused c = λ why is.
    let left = err_from_is_err_and c.from_residual.result c.from_residual.ensures.1 in
    source_refused c.args.bytes.now c.in_err-compile.field-0.0 why c.in_err-compile.ensures.refused
    (err_is _ (error.Refused why) (sym (left.1 ∙ ap Err left.2) ∙ is))

pub returns-clause-only : goal.returns-clause-only
returns-clause-only c = λ p is.
    ap Ok (ok_is (compiled p) c.in_ok-compile.field-0 (c.in_ok-compile.ensures.only p is))

pub returns-in_err-compile-clause-for_fault : goal.returns-in_err-compile-clause-for_fault
returns-in_err-compile-clause-for_fault c = λ why is.
    let left = err_from_is_err_and c.from_residual.result c.from_residual.ensures.1 in
    source_fault c.in_err-compile.field-0.0 why c.in_err-compile.ensures.plain
    (err_is _ (error.Refused why) (sym (left.1 ∙ ap Err left.2) ∙ is))
