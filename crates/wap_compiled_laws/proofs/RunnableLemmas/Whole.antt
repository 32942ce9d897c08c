-- A compiled function's places are reached with one number of values each, and with enough,
-- and its code splits.
use Rattle.std.proofs.Common.{◌≡◌, ℕ, ◌+◌, List, length, Some, subst, arith, slice_get}
use Rattle.wap_unit.specs.declared.unit.Unit.{Unit as CodeUnit}
use Rattle.wap_unit.specs.declared.unit.Code.{Code}
use Rattle.wap_unit.specs.declared.instr.Instr.{Instr}
use Rattle.wap_asm.specs.declared.form.Form.TheVariants.{Op}
use Rattle.wap_grammar.specs.declared.program.expression.Literal.{Literal}
use Rattle.wap_grammar.specs.declared.program.program.Function.{Function as SourceFunction}
use Rattle.wap_grammar.specs.declared.program.program.Program.{Program}
use Rattle.wap_meaning.specs.coding.Compiled.{numbers_in, IsCodeOf}
use Rattle.wap_meaning.proofs.Variables.{variables_first}
use Rattle.wap_verify.specs.Sound.{IsSound}
use Rattle.wap_compiled_laws.proofs.Depths.Spots.{Layout}
use Rattle.wap_compiled_laws.proofs.Depths.Bodies.{layout_of, Told, wired_at, body_told}
use Rattle.wap_compiled_laws.proofs.Labels.Ranges.{kind_of, AreThere}
use Rattle.wap_compiled_laws.proofs.RunnableLemmas.Split.{split}
use Rattle.wap_compiled_laws.proofs.Soundness.Spelled.{IsWired, spelled}
use Rattle.wap_compiled_laws.proofs.Soundness.Sound.{one_number}
use Rattle.wap_compiled_laws.proofs.Soundness.Reached.{Walk, enough}

-- forms of which it is told are wired
wired : {layout : Layout} → Told layout → IsWired layout.forms
wired told = record {
  named = λ k form here. (wired_at told k here).0.0;
  plain = λ k form here. (wired_at told k here).0.1;
  labels = λ k n here. wired_at told k here;
  jumps = λ k n name here. wired_at told k here;
}

-- a compiled function has as many variables as its source
all_variables : {p : Program} {pool : List Literal} {f : SourceFunction} {code : Code}
    {u : CodeUnit} → IsCodeOf p u pool f code
    → length (numbers_in p pool f).names.variables ≡ code.args + code.locals
all_variables {f} is = omega (arith, variables_first f, is.parameters, is.variables)

-- a compiled function
pub sound : {p : Program} {u : CodeUnit} {pool : List Literal} {f : SourceFunction} {code : Code}
    {index : ℕ} → IsCodeOf p u pool f code → IsSound u index code
sound {p} {u} {pool} {f} {code} {index} is =
    let numbers = numbers_in p pool f in
    let layout : Layout = layout_of u numbers f.body in
    let forms = layout.forms in
    let told : Told layout = body_told u numbers f.body is.met in
    let ties : IsWired forms = wired told in
    let there : (k : ℕ) (form : Instr) → slice_get forms k ≡ Some (Op form)
    → AreThere u (code.args + code.locals) (kind_of form.name) form =
    λ k form here. subst (λ n. AreThere u n (kind_of form.name) form) (all_variables is)
    (wired_at told k here).1 in
    let walk : Walk = record {
      unit = u;
      index = index;
      function = code;
      forms = forms;
      pos = is.start;
      placed = spelled ties is.placed;
      wired = ties;
      d = told.depth;
      begins = told.begins;
      all = λ k least most. (told.spots k least most).fits;
    } in
    record {
      split = split walk there;
      one = one_number walk;
      enough = enough walk;
    }
