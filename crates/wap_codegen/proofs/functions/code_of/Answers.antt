use Rattle.std.proofs.Common.{Result, Err, IfErr, length, sym, ap, ◌∙◌, subst, arith}
use Rattle.std.proofs.lemmas.Result.{err_from_is_err_and}
use Rattle.wap_asm.specs.Placing.{placed}
use Rattle.wap_asm.specs.Placed.{ArePlaceable}
use Rattle.wap_unit.specs.declared.unit.Code.{Code}
use Rattle.wap_codegen.specs.declared.fault.CompileFault.{CompileFault}
use Rattle.wap_codegen.specs.inside.Units.{IsFunctionCause}
use Rattle.wap_codegen.proofs.Making.{forms_now, locals_counted, code_is, is_short, saves_few}
use Rattle.wap_codegen.proofs.Making.{function_cause}
use Rattle.wap_codegen.proofs.functions.code_of.Goals as goal

pub bytes_of-requires-clause-placeable : goal.bytes_of-requires-clause-placeable
bytes_of-requires-clause-placeable c =
    subst ArePlaceable
    (sym (forms_now c.args.program.now c.args.function.now c.args.numbering.now c.enter.new.self
    c.requires.numbers c.enter.ensures.functions c.enter.ensures.urls c.enter.ensures.pool
    c.in_ok-enter.ensures.variables c.in_ok-forms.forms.items c.as_slice.result.now
    c.in_ok-forms.ensures c.as_slice.ensures.value))
    c.requires.made.forms.placeable

pub bytes_of-requires-clause-few : goal.bytes_of-requires-clause-few
bytes_of-requires-clause-few c =
    saves_few c.args.program.now c.args.function.now c.as_slice.result.now
    (forms_now c.args.program.now c.args.function.now c.args.numbering.now c.enter.new.self
    c.requires.numbers c.enter.ensures.functions c.enter.ensures.urls c.enter.ensures.pool
    c.in_ok-enter.ensures.variables c.in_ok-forms.forms.items c.as_slice.result.now
    c.in_ok-forms.ensures c.as_slice.ensures.value)
    c.requires.made.forms

pub returns-in_err-code-clause-fault : goal.returns-in_err-code-clause-fault
returns-in_err-code-clause-fault c =
    let left = err_from_is_err_and c.from_residual-in_err-code.result
    c.from_residual-in_err-code.ensures.1 in
    subst (λ (r : Result Code CompileFault).
    IfErr r (IsFunctionCause c.args.index c.args.function.now))
    (sym (left.1 ∙ ap Err left.2))
    (function_cause c.args.program.now c.args.index c.args.function.now c.as_slice.result.now
    (forms_now c.args.program.now c.args.function.now c.args.numbering.now c.enter.new.self
    c.requires.numbers c.enter.ensures.functions c.enter.ensures.urls c.enter.ensures.pool
    c.in_ok-enter.ensures.variables c.in_ok-forms.forms.items c.as_slice.result.now
    c.in_ok-forms.ensures c.as_slice.ensures.value)
    c.requires.made.forms c.in_err-code.field-0.0 c.in_err-code.ensures.fault)

pub overflow_sub-locals : goal.overflow_sub-locals
overflow_sub-locals c =
    omega (
      arith,
      c.len-args.ensures,
      c.variable_count.ensures,
      ap length c.in_ok-enter.ensures.variables,
      locals_counted c.args.function.now,
    )

pub overflow_cast-result : goal.overflow_cast-result
overflow_cast-result c =
    omega (
      arith,
      c.len-args.ensures,
      c.requires.made.few,
      locals_counted c.args.function.now,
    )

pub returns-clause-found : goal.returns-clause-found
returns-clause-found c =
    code_is c.args.program.now c.args.function.now _ _ _ c.len-args.ensures
    (omega (
      arith,
      c.len-args.ensures,
      c.variable_count.ensures,
      ap length c.in_ok-enter.ensures.variables,
      locals_counted c.args.function.now,
    ))
    (c.in_ok-code.ensures.found ∙ ap placed
    (forms_now c.args.program.now c.args.function.now c.args.numbering.now c.enter.new.self
    c.requires.numbers c.enter.ensures.functions c.enter.ensures.urls c.enter.ensures.pool
    c.in_ok-enter.ensures.variables c.in_ok-forms.forms.items c.as_slice.result.now
    c.in_ok-forms.ensures c.as_slice.ensures.value))

pub returns-clause-short : goal.returns-clause-short
returns-clause-short c =
    is_short c.args.program.now c.args.function.now c.as_slice.result.now
    (forms_now c.args.program.now c.args.function.now c.args.numbering.now c.enter.new.self
    c.requires.numbers c.enter.ensures.functions c.enter.ensures.urls c.enter.ensures.pool
    c.in_ok-enter.ensures.variables c.in_ok-forms.forms.items c.as_slice.result.now
    c.in_ok-forms.ensures c.as_slice.ensures.value)
    c.requires.made.forms c.in_ok-code.ensures.short
