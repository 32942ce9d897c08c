use Rattle.std.proofs.Common.{Ok, Err, sym, ap, ◌∙◌, subst}
use Rattle.std.proofs.lemmas.Result.{err_from_is_err_and}
use Rattle.wap_verify.specs.Sound.{IsVerified}
use Rattle.wap_pages.specs.declared.fault.PageErr.TheVariants as error
use Rattle.wap_pages.proofs.Memory.{verify_fault}
use Rattle.wap_pages.proofs.Refusing.{Only, verify_only, verify_refused, by_unit, ok_is, err_is}
use Rattle.wap_pages.proofs.reading.verified_in.Goals as goal

pub returns-in_err-unit-clause-refused : goal.returns-in_err-unit-clause-refused
returns-in_err-unit-clause-refused c = λ why is.
    let left = err_from_is_err_and c.from_residual.result c.from_residual.ensures.1 in
    by_unit c.args.bytes.now why
    (c.in_err-unit.ensures.refused why
    (ap Err (err_is _ (error.Refused why) (sym (left.1 ∙ ap Err left.2) ∙ is))))

pub returns-in-Ok-clause-only : goal.returns-in-Ok-clause-only
returns-in-Ok-clause-only c = λ one is verified.
    ap Ok (ok_is one c.in_ok-unit.unit (c.in_ok-unit.ensures.only one is)
    ∙ sym c.in-Ok.ensures.kept)

pub returns-clause-only : goal.returns-clause-only
returns-clause-only c = λ one is verified.
    let same = ok_is one c.in_ok-unit.unit (c.in_ok-unit.ensures.only one is) in
    subst (Only one) (sym c.from.ensures)
    (verify_only c.args.bytes.now c.in_ok-unit.unit c.in_ok-unit.ensures.found c.in-Err.fault one
    (λ some. some (c.in-Err.ensures.accepted (subst IsVerified same verified))))

pub returns-clause-refused : goal.returns-clause-refused
returns-clause-refused c = λ why is.
    verify_refused c.args.bytes.now c.in_ok-unit.unit c.in_ok-unit.ensures.found c.in-Err.fault why
    c.in-Err.ensures.fault
    (sym c.from.ensures ∙ err_is c.from.result (error.Refused why) is)

pub returns-in_err-unit-clause-for_fault : goal.returns-in_err-unit-clause-for_fault
returns-in_err-unit-clause-for_fault c = λ why is.
    let left = err_from_is_err_and c.from_residual.result c.from_residual.ensures.1 in
    c.in_err-unit.ensures.for_fault why
    (ap Err (err_is _ (error.Refused why) (sym (left.1 ∙ ap Err left.2) ∙ is)))

pub returns-clause-for_fault : goal.returns-clause-for_fault
returns-clause-for_fault c = λ why is.
    verify_fault c.in-Err.fault why
    (sym c.from.ensures ∙ err_is c.from.result (error.Refused why) is)
