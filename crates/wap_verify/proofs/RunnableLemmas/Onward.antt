-- What stands at a place leads on, within the code, and gives one value at most.
use Rattle.std.proofs.Common.{◌≡◌, ℕ, ◌-◌, ◌<◌, ◌≤◌, ltb, List, length, slice_index, Option, Some}
use Rattle.std.proofs.Common.{None, Result, Ok, Err, refl, subst, inl, inr, arith}
use Rattle.std.specs.Prelude.{IfSome}
use Rattle.std.proofs.lemmas.Bool.{ltb-true, ltb-false}
use Rattle.wap_base.proofs.Choices.{chosen, ok_same}
use Rattle.wap_unit.specs.declared.unit.Unit.{Unit}
use Rattle.wap_unit.specs.declared.unit.Code.{Code}
use Rattle.wap_unit.specs.declared.row.Row.{Row}
use Rattle.wap_unit.specs.declared.row.After.{After}
use Rattle.wap_unit.specs.declared.row.After.TheVariants.{On, Forward, Backward, ForwardOrOn}
use Rattle.wap_unit.specs.declared.row.After.TheVariants.{BackwardOrOn, Pair, Leave}
use Rattle.wap_unit.specs.declared.instr.Instr.{Instr}
use Rattle.wap_unit.specs.declared.instr.InstrFault.{InstrFault}
use Rattle.wap_unit.specs.declared.instr.InstrFault.TheVariants.{Operand}
use Rattle.wap_unit.specs.Instructions.{size, row_of, read, read_row}
use Rattle.wap_asm.proofs.Gifts.{gives-row}
use Rattle.wap_verify.specs.declared.step.Step.{Step}
use Rattle.wap_verify.specs.declared.fault.VerifyFault.{VerifyFault}
use Rattle.wap_verify.specs.declared.fault.VerifyFault.TheVariants as fault
use Rattle.wap_verify.specs.CodePlaces.{values_taken, operand_fault, step_of, pair}
use Rattle.wap_verify.specs.CodePlaces.{is_conditional_forward, jump_read, jump_by, pair_at}
use Rattle.wap_verify.specs.CodePlaces.{is_pair}
use Rattle.wap_verify.specs.CodePlaces.{fine_at, checked, instr_read, step_by, step_at}
use Rattle.wap_verify.specs.inside.Work.{GoesOn}

-- an instruction that was read ends behind its place, within the code
abbrev IsWithin : ℕ → ℕ → Instr → Type 0
IsWithin at end instr = (at < instr.next) × (instr.next ≤ end)

read_within : (row : Row) (code : List ℕ) (at : ℕ) (instr : Instr) → at < length code
    → read_row row code at ≡ Ok instr → IsWithin at (length code) instr
read_within row code at instr inside is =
    elim (chosen (ltb (length code - at) (size row)) (Err Operand) (Ok (read row code at))
    (Ok instr) is) [
      | inl short ↦ absurd (cc short.1)
      | inr enough ↦
          subst (IsWithin at (length code)) (ok_same (read row code at) instr enough.1)
          (let fits : size row ≤ length code - at = ltb-false (length code - at) (size row) enough.0
          in
          (omega arith, omega arith))
    ]

-- what stands there leads on by each kind of instruction
by_after : (after : After) (at end takes gives : ℕ) (instr : Instr) → IsWithin at end instr
    → gives ≤ 1 → GoesOn at end (step_of after at instr takes gives)
by_after On at end takes gives instr is few =
    record { onward = is.0; within = is.1; on = few; jump = tt }
by_after Forward at end takes gives instr is few =
    record { onward = is.0; within = is.1; on = tt; jump = few }
by_after Backward at end takes gives instr is few =
    record { onward = is.0; within = is.1; on = tt; jump = few }
by_after ForwardOrOn at end takes gives instr is few =
    record { onward = is.0; within = is.1; on = few; jump = few }
by_after BackwardOrOn at end takes gives instr is few =
    record { onward = is.0; within = is.1; on = few; jump = few }
by_after Pair at end takes gives instr is few =
    record { onward = is.0; within = is.1; on = tt; jump = tt }
by_after Leave at end takes gives instr is few =
    record { onward = is.0; within = is.1; on = tt; jump = tt }

-- a short-circuit and its jump lead on
by_jump : (index : ℕ) (code : List ℕ) (at next takes : ℕ) (row : Row) (step : Step) → at < next
    → next < length code → (r : Result Instr InstrFault) → read_row row code next ≡ r
    → jump_read index next takes r ≡ Ok step → GoesOn at (length code) step
by_jump index code at next takes row step later inside (Err short) is so = absurd (cc so)
by_jump index code at next takes row step later inside (Ok jump) is so =
    let within = read_within row code next jump inside is in
    let first = within.0 in
    subst (GoesOn at (length code)) (ok_same (pair takes jump) step so)
    (record { onward = omega arith; within = within.1; on = omega arith; jump = omega arith })

by_next : (index : ℕ) (code : List ℕ) (at next takes : ℕ) (step : Step) → at < next
    → next < length code → (found : Option Row)
    → jump_by index code at next takes found ≡ Ok step → GoesOn at (length code) step
by_next index code at next takes step later inside None so = absurd (cc so)
by_next index code at next takes step later inside (Some row) so =
    elim (chosen (is_conditional_forward row.after)
    (jump_read index next takes (read_row row code next)) (Err (fault.LoneShort index at))
    (Ok step) so) [
      | inl jumps ↦
          by_jump index code at next takes row step later inside (read_row row code next) refl
          jumps.1
      | inr other ↦ absurd (cc other.1)
    ]

by_pair : (index : ℕ) (code : List ℕ) (at next takes : ℕ) (step : Step) → at < next
    → pair_at index code at next takes ≡ Ok step → GoesOn at (length code) step
unfolding pair_at
by_pair index code at next takes step later so =
    elim (chosen (ltb next (length code))
    (jump_by index code at next takes (row_of (slice_index code next)))
    (Err (fault.LoneShort index at)) (Ok step) so) [
      | inl more ↦
          by_next index code at next takes step later (ltb-true next (length code) more.0)
          (row_of (slice_index code next)) more.1
      | inr none ↦ absurd (cc none.1)
    ]

module _ (unit : Unit) (index : ℕ) (function : Code) (at : ℕ) (step : Step)
    (inside : at < length function.code) where
  by_fine : (row : Row) (instr : Instr) → row.gives ≤ 1
      → IsWithin at (length function.code) instr
      → fine_at unit index function at row instr ≡ Ok step → GoesOn at (length function.code) step
  unfolding fine_at
  by_fine row instr few is so =
      let takes : ℕ = values_taken unit row.takes row.operands instr in
      elim (chosen (is_pair row.after) (pair_at index function.code at instr.next takes)
      (Ok (step_of row.after at instr takes row.gives)) (Ok step) so) [
        | inl two ↦ by_pair index function.code at instr.next takes step is.0 two.1
        | inr one ↦
            subst (GoesOn at (length function.code))
            (ok_same (step_of row.after at instr takes row.gives) step one.1)
            (by_after row.after at (length function.code) takes row.gives instr is few)
      ]

  by_operands : (row : Row) (instr : Instr) → row.gives ≤ 1
      → IsWithin at (length function.code) instr → (found : Option VerifyFault)
      → checked unit index function at row instr found ≡ Ok step
      → GoesOn at (length function.code) step
  by_operands row instr few is (Some found) so = absurd (cc so)
  by_operands row instr few is None so = by_fine row instr few is so

  by_reading : (row : Row) → row.gives ≤ 1 → (r : Result Instr InstrFault)
      → read_row row function.code at ≡ r → instr_read unit index function at row r ≡ Ok step
      → GoesOn at (length function.code) step
  by_reading row few (Err short) is so = absurd (cc so)
  by_reading row few (Ok instr) is so =
      by_operands row instr few (read_within row function.code at instr inside is)
      (operand_fault unit index function at row.operands instr) so

  by_row : (found : Option Row) → IfSome found (λ row. row.gives ≤ 1)
      → step_by unit index function at found ≡ Ok step → GoesOn at (length function.code) step
  by_row None few so = absurd (cc so)
  by_row (Some row) few so = by_reading row few (read_row row function.code at) refl so

  -- what stands at a place of the code leads on
  pub goes_on : step_at unit index function at ≡ Ok step → GoesOn at (length function.code) step
  unfolding step_at
  goes_on so =
      by_row (row_of (slice_index function.code at))
      (gives-row (slice_index function.code at) (row_of (slice_index function.code at)) refl) so
