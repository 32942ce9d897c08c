-- What one step of a path comes to at a form.
use Rattle.std.proofs.Common.{◌≡◌, ℕ, List, Bool, true, false, cond, ltb, length, Some}
use Rattle.std.proofs.Common.{Result, Ok, Err, sym, ap, ◌∙◌, subst}
use Rattle.std.specs.Prelude.{slice_index}
use Rattle.wap_unit.specs.declared.unit.Unit.{Unit as CodeUnit}
use Rattle.wap_unit.specs.declared.unit.Code.{Code}
use Rattle.wap_unit.specs.declared.row.OpName.{OpName}
use Rattle.wap_unit.specs.declared.row.After.{After}
use Rattle.wap_unit.specs.declared.row.Row.{Row}
use Rattle.wap_unit.specs.declared.instr.Instr.{Instr}
use Rattle.wap_unit.specs.Instructions.{read_row}
use Rattle.wap_verify.specs.declared.step.Step.{Step}
use Rattle.wap_verify.specs.declared.fault.VerifyFault.{VerifyFault}
use Rattle.wap_verify.specs.CodePlaces.{values_taken, step_of, pair, pair_at, jump_by, jump_read}
use Rattle.wap_verify.specs.CodePlaces.{is_conditional_forward, is_pair, fine_at, step_at}
use Rattle.wap_compiled_laws.proofs.Soundness.Spelled.{Stands}
use Rattle.wap_compiled_laws.proofs.Depths.Flow.{short}
use Rattle.wap_compiled_laws.proofs.Soundness.Table.{row_says, Says, IsAs, row_is_as}
use Rattle.wap_unit.specs.declared.row.OpName.TheVariants as op
use Rattle.wap_verify.specs.declared.fault.VerifyFault.TheVariants as fault
use Rattle.std.proofs.Common.{arith}
use Rattle.std.proofs.lemmas.Grind.{common_steps}

-- the step that is there
abbrev value_or : Step → Result Step VerifyFault → Step
value_or other (Ok step) = step
value_or other (Err found) = other

-- a step, as an answer
abbrev good : Step → Result Step VerifyFault
good step = Ok step

-- answers that are the same are of the same step
pub ok_same : {one two : Step} → good one ≡ Ok two → one ≡ two
ok_same {one} is = ap (value_or one) is

-- the row of what stands there is as its operation's flow says
pub stands_as : (unit : CodeUnit) {code : List ℕ} {at : ℕ} {name : OpName} {instr : Instr}
    (stands : Stands code at name instr) → IsAs unit stands.row name instr
stands_as unit {code} {at} {instr} stands =
    subst (λ o. IsAs unit stands.row o instr) stands.of_operation
    (row_is_as unit (slice_index code at) stands.has_row instr)

module _ (unit : CodeUnit) (index : ℕ) (function : Code) (at : ℕ) where
  -- what stands there is the row's step, where it stands at all
  pub stands_step : (operation : OpName) (instr : Instr)
      (stands : Stands function.code at operation instr) {step : Step} → step_at unit index function
      at ≡ Ok step → fine_at unit index function at stands.row instr ≡ Ok step
  unfolding step_at
  stands_step operation instr stands {step} is = grind (arith, common_steps)

  -- of a row that is no pair
  plain_step : (row : Row) (instr : Instr) {step : Step} {after : After} {takes gives : ℕ}
      → row.after ≡ after → is_pair after ≡ false
      → values_taken unit row.takes row.operands instr ≡ takes → row.gives ≡ gives
      → fine_at unit index function at row instr ≡ Ok step
      → step ≡ step_of after at instr takes gives
  unfolding fine_at
  plain_step row instr {after} {takes} {gives} afters single takens given is =
      grind (arith, common_steps, ok_same)

  -- an instruction that is no pair goes where its row says
  pub row_step : {operation : OpName} {instr : Instr} {after : After} {takes gives : ℕ}
      (stands : Stands function.code at operation instr) → is_pair after ≡ false
      → row_says unit instr stands.row ≡ (after, takes, gives) → {step : Step}
      → step_at unit index function at ≡ Ok step
      → step ≡ step_of after at instr takes gives
  row_step {operation} {instr} stands single so is =
      plain_step stands.row instr (ap (λ s. s.0) so) single (ap (λ s. s.1) so) (ap (λ s. s.2) so)
      (stands_step operation instr stands is)

  -- of a short-circuit with its jump
  pub pair_step : {operation : OpName} {instr jump : Instr}
      (stands : Stands function.code at operation instr) → Says unit stands.row instr short
      → Stands function.code instr.next op.TjumpFw jump → {step : Step}
      → step_at unit index function at ≡ Ok step → step ≡ pair 1 jump
  unfolding fine_at pair_at
  pair_step {operation} {instr} {jump} stands so second {step} is =
      let row = stands.row in
      let values = values_taken unit row.takes row.operands instr in
      let paired : pair_at index function.code at instr.next values ≡ Ok step =
      sym (ap (λ (a : After). cond (is_pair a)
      (pair_at index function.code at instr.next values)
      (Ok (step_of a at instr values row.gives))) (ap (λ s. s.0) so))
      ∙ stands_step operation instr stands is in
      let other = stands_as unit second in
      let jumped : jump_by index function.code at instr.next values (Some second.row)
      ≡ Ok (pair 1 jump) =
      ap (λ (a : After). cond (is_conditional_forward a)
      (jump_read index instr.next values
      (read_row second.row function.code instr.next)) (Err (fault.LoneShort index at)))
      (ap (λ s. s.0) other)
      ∙ ap (jump_read index instr.next values) second.reads
      ∙ ap (λ s. Ok (pair s.1 jump)) so in
      by (ltb instr.next (length function.code)) paired
      (ap (jump_by index function.code at instr.next values) second.has_row ∙ jumped)
    where
      by : {one : Result Step VerifyFault} (within : Bool)
          → cond within one (Err (fault.LoneShort index at)) ≡ Ok step
          → one ≡ Ok (pair 1 jump) → step ≡ pair 1 jump
      by true is so = ok_same (sym is ∙ so)
      by false is so = absurd (cc is)
