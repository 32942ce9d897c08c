use Rattle.std.proofs.Common.{Ok, Err, sym, ap, ◌∙◌, subst}
use Rattle.std.proofs.lemmas.Result.{err_from_is_err_and}
use Rattle.wap_base.specs.Outcome.{Meets}
use Rattle.wap_pages.specs.declared.fault.PageErr.TheVariants as error
use Rattle.wap_pages.proofs.Memory.{unit_fault}
use Rattle.wap_pages.proofs.Refusing.{unit_only, unit_refused, ok_is, err_is}
use Rattle.wap_pages.proofs.reading.unit_in.Goals as goal

pub returns-in_err-decode-clause-only : goal.returns-in_err-decode-clause-only
returns-in_err-decode-clause-only c = λ one is.
    let left = err_from_is_err_and c.from_residual.result c.from_residual.ensures.1 in
    subst (λ result. Meets error.NoMemory (λ unit. unit) result (Ok one))
    (sym (left.1 ∙ ap Err left.2))
    (unit_only c.args.bytes.now c.in_err-decode.field-0.0 one (c.in_err-decode.ensures.only one is))

pub returns-in_err-decode-clause-refused : goal.returns-in_err-decode-clause-refused
returns-in_err-decode-clause-refused c = λ why is.
    let left = err_from_is_err_and c.from_residual.result c.from_residual.ensures.1 in
    unit_refused c.args.bytes.now c.in_err-decode.field-0.0 why c.in_err-decode.ensures.refused
    (err_is _ (error.Refused why) (sym (left.1 ∙ ap Err left.2) ∙ is))

pub returns-clause-only : goal.returns-clause-only
returns-clause-only c =
    λ one is. ap Ok (ok_is one c.in_ok-decode.field-0 (c.in_ok-decode.ensures.only one is))

pub returns-in_err-decode-clause-for_fault : goal.returns-in_err-decode-clause-for_fault
returns-in_err-decode-clause-for_fault c = λ why is.
    let left = err_from_is_err_and c.from_residual.result c.from_residual.ensures.1 in
    unit_fault c.in_err-decode.field-0.0 why
    (err_is _ (error.Refused why) (sym (left.1 ∙ ap Err left.2) ∙ is))
