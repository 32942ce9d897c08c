-- What operations take and give, by the table.
use Rattle.std.proofs.Common.{◌≡◌, ℕ, Bool, true, false, cond, List, [], ◌∷◌, Option, Some}
use Rattle.std.proofs.Common.{refl, ap, subst, map, unwrap_or, find}
use Rattle.wap_unit.specs.declared.unit.Unit.{Unit as CodeUnit}
use Rattle.wap_unit.specs.declared.row.OpName.{OpName}
use Rattle.wap_unit.specs.declared.row.After.{After}
use Rattle.wap_unit.specs.declared.row.After.TheVariants.{On, Forward, Backward, ForwardOrOn}
use Rattle.wap_unit.specs.declared.row.After.TheVariants.{BackwardOrOn, Pair, Leave}
use Rattle.wap_unit.specs.declared.row.Row.{Row}
use Rattle.wap_unit.specs.declared.instr.Instr.{Instr}
use Rattle.wap_unit.specs.Instructions.{has_code, row_of}
use Rattle.wap_unit.specs.Rows.{rows}
use Rattle.wap_asm.specs.Spellings.{longest}
use Rattle.wap_verify.specs.CodePlaces.{values_taken}
use Rattle.wap_compiled_laws.proofs.Depths.Flow.{Flow, goes, leaves, short, flow_by}
use Rattle.wap_unit.specs.declared.row.OpName.TheVariants as op

-- what comes to the same at each of some rows does so at one that is found
pub same_at : {A : Type 0} (f g : Row → A) (all : List Row) (test : Row → Bool) {row : Row}
    → map f all ≡ map g all → find test all ≡ Some row → f row ≡ g row
same_at f g [] test same is = absurd (cc is)
same_at f g (first ∷ all) test {row} same is =
    let heads : f first ≡ g first = cc both in
    let tails : map f all ≡ map g all = cc both in
    by (test first) is heads (same_at f g all test tails)
  where
    both : f first ∷ map f all ≡ g first ∷ map g all
    both = same

    by : (here : Bool) → cond here (Some first) (find test all) ≡ Some row → f first ≡ g first
        → (find test all ≡ Some row → f row ≡ g row) → f row ≡ g row
    by true is heads inner =
        subst (λ (r : Row). f r ≡ g r) (ap (λ (o : Option Row). unwrap_or o first) is) heads
    by false is heads inner = inner is

module _ (unit : CodeUnit) where
  -- where a row goes on, and what it takes and gives
  abbrev pub row_says : Instr → Row → After × ℕ × ℕ
  row_says instr row = (row.after, values_taken unit row.takes row.operands instr, row.gives)

  -- the same of a flow
  abbrev pub flow_says : Flow → After × ℕ × ℕ
  flow_says (goes takes gives) = (On, takes, gives)
  flow_says (leaves takes) = (Leave, takes, 0)
  flow_says short = (Pair, 1, 0)

  -- and of an operation
  abbrev pub name_says : Instr → OpName → After × ℕ × ℕ
  name_says instr op.JumpFw = (Forward, 0, 0)
  name_says instr op.JumpBw = (Backward, 0, 0)
  name_says instr op.TjumpFw = (ForwardOrOn, 1, 0)
  name_says instr op.TjumpBw = (BackwardOrOn, 1, 0)
  name_says instr name = flow_says (flow_by unit name instr)

  -- a row is as a flow says
  abbrev pub Says : Row → Instr → Flow → Type 0
  Says row instr flow = row_says instr row ≡ flow_says flow

  -- and as an operation says
  abbrev pub IsAs : Row → OpName → Instr → Type 0
  IsAs row name instr = row_says instr row ≡ name_says instr name

  -- the row of a byte is as its operation says
  pub row_is_as : (code : ℕ) {row : Row} → row_of code ≡ Some row → (instr : Instr)
      → IsAs row row.operation instr
  unfolding row_of longest
  row_is_as code is instr =
      same_at (row_says instr) (λ (r : Row). name_says instr r.operation) rows (has_code code) refl
      is
