-- The places of a compiled function are reached with one number of values, and with enough.
use Rattle.std.proofs.Common.{◌≡◌, ◌≢◌, ℕ, zero, suc, ◌+◌, ◌-◌, ◌<◌, ◌≤◌}
use Rattle.std.proofs.Common.{List, length, Option, Some, None, Result, Ok, Err, refl, sym}
use Rattle.std.proofs.Common.{ap, ◌∙◌, subst, arith, slice_get, inl, inr, le_trans}
use Rattle.std.proofs.lemmas.Option.{slice_get-get_or}
use Rattle.std.proofs.lemmas.Bool.Decides.{eqb_tells, leb_tells}
use Rattle.wap_unit.specs.declared.row.OpName.{OpName}
use Rattle.wap_unit.specs.declared.row.Row.{Row}
use Rattle.wap_unit.specs.declared.instr.Instr.{Instr}
use Rattle.wap_unit.specs.declared.instr.InstrFault.{InstrFault}
use Rattle.wap_unit.specs.Instructions.{read_row}
use Rattle.wap_verify.specs.Paths.{Stand, Reaches}
use Rattle.wap_asm.specs.declared.form.Form.{Form}
use Rattle.wap_asm.specs.declared.form.Form.TheVariants.{Op, Jump, Label}
use Rattle.wap_compiled_laws.proofs.Soundness.Spelled.{Stands, IsPlaced}
use Rattle.wap_compiled_laws.proofs.Soundness.Reached.{Walk, Stands_at, path_stands}
use Rattle.std.proofs.lemmas.Grind.{common_steps}

-- where what was read goes on
abbrev next_or : Result Instr InstrFault → ℕ
next_or (Ok instr) = instr.next
next_or (Err found) = 0

-- what was read goes on behind where it begins
next_behind : (row : Row) (code : List ℕ) {place : ℕ} {instr : Instr}
    → read_row row code place ≡ Ok instr → place < instr.next
next_behind row code {place} {instr} is = grind (arith, common_steps, next_or)

module _ (code : List ℕ) (forms : List Form) (pos : ℕ → ℕ) (placed : IsPlaced code forms pos) where
  -- what stands at a place goes on behind it
  stands_grows : {place : ℕ} {name : OpName} {instr : Instr} → Stands code place name instr
      → place < instr.next
  stands_grows stands = next_behind stands.row code stands.reads

  -- a jump takes bytes
  jump_grows : {k n : ℕ} {name : OpName} → slice_get forms k ≡ Some (Jump name n)
      → pos k < pos (k + 1)
  jump_grows {k} {n} {name} is =
      let found = placed.jumps k n name is in
      let grows = stands_grows found.stands in
      let next = found.ends in omega arith

  -- a form that is no label takes bytes
  grows : (k : ℕ) → k < length forms → ((n : ℕ) → slice_get forms k ≢ Some (Label n))
      → pos k < pos (k + 1)
  grows k less no_label = by (slice_get forms k) refl
    where
      by : (form : Option Form) → slice_get forms k ≡ form → pos k < pos (k + 1)
      by None is = absurd (cc (slice_get-get_or forms k (Label 0) less))
      by (Some (Op instr)) is =
          let found = placed.ops k instr is in
          stands_grows found.1
      by (Some (Jump name n)) is = jump_grows is
      by (Some (Label n)) is = absurd (no_label n is)

  -- no form goes back
  never_keeps : {k : ℕ} → k < length forms → pos k ≤ pos (k + 1)
  never_keeps {k} less = grind (arith, common_steps, slice_get-get_or, grows, jump_grows)

  -- nor do many
  climbs : {k : ℕ} (count : ℕ) → k + count ≤ length forms → pos k ≤ pos (k + count)
  climbs {k} zero within = let e : k + 0 ≡ k = omega arith in
      subst (λ (n : ℕ). pos k ≤ pos n) (sym e) (omega arith)
  climbs {k} (suc count) within =
      let e : k + count + 1 ≡ k + suc count = omega arith in
      subst (λ (n : ℕ). pos k ≤ pos n) e
      (le_trans (climbs count (omega arith)) (never_keeps (omega arith)))

  -- no two forms that take bytes stand at one place
  apart : {k j : ℕ} → k < j → j ≤ length forms → ((n : ℕ) → slice_get forms k ≢ Some (Label n))
      → pos k < pos j
  apart {k} {j} less within no_label =
      let e : k + 1 + (j - k - 1) ≡ j = omega arith in
      let one = grows k (omega arith) no_label in
      let rest = subst (λ (n : ℕ). pos (k + 1) ≤ pos n) e (climbs (j - k - 1) (omega arith)) in
      omega arith

module _ (walk : Walk) where
  open walk use {unit, index, function, forms, pos, placed, d}

  -- a place of the code, and how many values are there
  abbrev StandsAt : Stand → Type 0
  StandsAt = Stands_at walk

  -- what is reached stands there
  reached : {at values : ℕ} → Reaches unit index function at values → StandsAt (at, values)
  reached reaches = path_stands walk reaches.before reaches.path

  -- what stands at one place is one form
  same_form : {at some other : ℕ} (one : StandsAt (at, some)) (two : StandsAt (at, other))
      → one.form ≡ two.form
  same_form one two =
      elim (leb_tells one.form two.form) [
        | inl less ↦ elim (eqb_tells one.form two.form) [
          | inl same ↦ same.1
          | inr away ↦
              let far = away.1 in
              let more = apart function.code forms pos placed (omega arith) two.within one.no_label
              in
              let here = one.place in let there = two.place in absurd (omega arith)
        ]
        | inr more ↦
            let no = more.1 in
            let grown = apart function.code forms pos placed (omega arith) one.within two.no_label
            in
            let here = one.place in let there = two.place in absurd (omega arith)
      ]

  -- one number of values at most
  pub one_number : (at some other : ℕ) → at < length function.code
      → Reaches unit index function at some → Reaches unit index function at other → some ≡ other
  one_number at some other less first second =
      let one = reached first in
      let two = reached second in
      sym one.values ∙ ap d (same_form one two) ∙ two.values
