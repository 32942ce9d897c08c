-- A compiled function's code is whole instructions, and each jump has a target.
use Rattle.std.proofs.Common.{◌≡◌, ◌≢◌, ℕ, zero, suc, ◌+◌, ◌-◌, ◌<◌, ◌≤◌, ◌⊎◌, Bool, true, false}
use Rattle.std.proofs.Common.{◌&&◌, ◌||◌, not, eqb, cond, List, [], ◌∷◌, length, Option, Some}
use Rattle.std.proofs.Common.{None, Ok, Err, refl, sym, ap, ◌∙◌, subst, arith, slice_get}
use Rattle.std.proofs.Common.{inl, inr, option_map, unwrap_or}
use Rattle.std.proofs.lemmas.Bool.{eq-eqb, lt-ltb, le-ltb}
use Rattle.std.proofs.lemmas.Bool.Decides.{eqb_tells, leb_tells}
use Rattle.std.proofs.lemmas.Option.{slice_get-get_or, slice_get_within}
use Rattle.std.specs.Prelude.{slice_index}
use Rattle.std.specs.List.{list_any, list_all}
use Rattle.wap_unit.specs.declared.unit.Unit.{Unit as CodeUnit}
use Rattle.wap_unit.specs.declared.unit.Code.{Code}
use Rattle.wap_unit.specs.declared.row.OpName.{OpName}
use Rattle.wap_unit.specs.declared.row.OpName.TheVariants as op
use Rattle.wap_unit.specs.declared.row.Operands.{Operands}
use Rattle.wap_unit.specs.declared.row.Operands.TheVariants as operands
use Rattle.wap_unit.specs.declared.row.After.{After}
use Rattle.wap_unit.specs.declared.row.Row.{Row}
use Rattle.wap_unit.specs.declared.instr.Instr.{Instr}
use Rattle.wap_unit.specs.Instructions.{has_code, row_of, read_row}
use Rattle.wap_asm.specs.Spellings.{longest}
use Rattle.wap_unit.specs.Rows.{rows}
use Rattle.wap_asm.specs.declared.form.Form.{Form}
use Rattle.wap_asm.specs.declared.form.Form.TheVariants.{Op, Jump, Label}
use Rattle.wap_verify.specs.declared.step.Step.{Step}
use Rattle.wap_verify.specs.declared.step.Way.{Way}
use Rattle.wap_verify.specs.declared.fault.VerifyFault.TheVariants as fault
use Rattle.wap_verify.specs.CodePlaces.{values_taken, operand_fault, step_of, pair, pair_at}
use Rattle.wap_verify.specs.CodePlaces.{jump_by, jump_read, is_conditional_forward, is_pair}
use Rattle.wap_verify.specs.CodePlaces.{fine_at, step_at}
use Rattle.wap_verify.specs.Sound.{Runs, leads_within, has_target, is_aimed, IsSplit}
use Rattle.wap_compiled_laws.proofs.Pragmas.{names_string}
use Rattle.wap_compiled_laws.proofs.Pieces.Pieces.{read_within}
use Rattle.wap_compiled_laws.proofs.Depths.Flow.{Flow, goes, leaves, short, flow_of}
use Rattle.wap_compiled_laws.proofs.Depths.Fine.{OpFine}
use Rattle.wap_compiled_laws.proofs.Labels.Ranges.{kind_of, AreThere}
use Rattle.wap_compiled_laws.proofs.Soundness.Spelled.{Stands, JumpAt}
use Rattle.wap_compiled_laws.proofs.Soundness.Table.{same_at, Says}
use Rattle.wap_compiled_laws.proofs.Soundness.Stepping.{stands_as}
use Rattle.wap_compiled_laws.proofs.Labels.Wired.{LeadsTo, forward, tests, backward}
use Rattle.wap_compiled_laws.proofs.Soundness.Reached.{says_of, flow_same, IsFirst, label_first}
use Rattle.wap_compiled_laws.proofs.Soundness.Reached.{Walk, op_fits}
use Rattle.std.proofs.lemmas.Grind.{common_steps}

-- ---- operands

-- the row of a byte names what its operation names
row_kind : (code : ℕ) (row : Row) → row_of code ≡ Some row → row.operands ≡ kind_of row.operation
unfolding row_of longest
row_kind code row is =
    same_at (λ (r : Row). r.operands) (λ (r : Row). kind_of r.operation) rows (has_code code) refl
    is

module _ (unit : CodeUnit) (index : ℕ) (function : Code) where
  -- how many variables the function has
  abbrev variables : ℕ
  variables = function.args + function.locals

  -- operands that name what is there have no fault
  no_fault : (at : ℕ) (kind : Operands) (instr : Instr) → AreThere unit variables kind instr
      → operand_fault unit index function at kind instr ≡ None
  no_fault at kind instr h3 = grind (arith, common_steps, lt-ltb, variables, names_string)

  -- an instruction that stands, and whose operands are there, is a step
  step_is : {at : ℕ} {operation : OpName} {instr : Instr}
      (stands : Stands function.code at operation instr)
      → AreThere unit variables (kind_of operation) instr
      → step_at unit index function at ≡ fine_at unit index function at stands.row instr
  unfolding step_at
  step_is {at} {operation} {instr} stands there =
      grind (arith, common_steps, kind_of, row_kind, no_fault, variables)

  -- a step from a place, with the next place, whose jump leads to a target
  record HasStep (at next : ℕ) (target : Option ℕ) : Type 0 where
    step : Step
    is : step_at unit index function at ≡ Ok step
    goes_to : step.next ≡ next
    stays : step.strays ≡ false
    aims : option_map (λ (way : Way). way.to) step.jump ≡ target

  -- of an instruction that is no pair
  plain_step : {at : ℕ} (operation : OpName) (instr : Instr)
      (stands : Stands function.code at operation instr) {after : After} {target : Option ℕ}
      → AreThere unit variables (kind_of operation) instr → stands.row.after ≡ after
      → is_pair after ≡ false
      → ((takes gives : ℕ) → (step_of after at instr takes gives).strays ≡ false)
      → ((takes gives : ℕ)
      → option_map (λ (way : Way). way.to) (step_of after at instr takes gives).jump ≡ target)
      → ((takes gives : ℕ) → (step_of after at instr takes gives).next ≡ instr.next)
      → HasStep at instr.next target
  unfolding fine_at
  plain_step {at} operation instr stands {after} there is single strays aims nexts =
      let row = stands.row in
      let values = values_taken unit row.takes row.operands instr in
      record {
        step = step_of after at instr values row.gives;
        is = step_is stands there
            ∙ ap (λ (a : After). cond (is_pair a)
            (pair_at index function.code at instr.next values)
            (Ok (step_of a at instr values row.gives))) is
            ∙ ap (λ (b : Bool). cond b (pair_at index function.code at instr.next values)
            (Ok (step_of after at instr values row.gives))) single;
        goes_to = nexts values row.gives;
        stays = strays values row.gives;
        aims = aims values row.gives;
      }

  -- of a short-circuit with its jump
  pair_step : {at : ℕ} {operation : OpName} {instr jump : Instr}
      (stands : Stands function.code at operation instr)
      → AreThere unit variables (kind_of operation) instr
      → Says unit stands.row instr short
      → Stands function.code instr.next op.TjumpFw jump
      → HasStep at jump.next (Some (jump.next + jump.a))
  unfolding fine_at pair_at
  pair_step {at} {instr} {jump} stands there so second =
      let row = stands.row in
      let values = values_taken unit row.takes row.operands instr in
      let other = stands_as unit second in
      let within : instr.next < length function.code =
      read_within second.row function.code second.reads in
      record {
        step = pair values jump;
        is = step_is stands there
            ∙ ap (λ (a : After). cond (is_pair a)
            (pair_at index function.code at instr.next values)
            (Ok (step_of a at instr values row.gives))) (ap (λ s. s.0) so)
            ∙ ap (λ (b : Bool). cond b
            (jump_by index function.code at instr.next values
            (row_of (slice_index function.code instr.next)))
            (Err (fault.LoneShort index at))) (lt-ltb instr.next (length function.code) within)
            ∙ ap (jump_by index function.code at instr.next values) second.has_row
            ∙ ap (λ (a : After). cond (is_conditional_forward a)
            (jump_read index instr.next values (read_row second.row function.code instr.next))
            (Err (fault.LoneShort index at))) (ap (λ s. s.0) other)
            ∙ ap (jump_read index instr.next values) second.reads;
        goes_to = refl;
        stays = refl;
        aims = refl;
      }

module _ (site : Walk)
    (ranged : (k : ℕ) (form : Instr) → slice_get site.forms k ≡ Some (Op form)
    → AreThere site.unit (site.function.args + site.function.locals) (kind_of form.name) form) where
  open site use {unit, index, function, forms, pos, placed, wired, d}

  -- no second part of a pair stands at a form
  abbrev First : ℕ → Type 0
  First = IsFirst site

  -- how long the code is
  abbrev end : ℕ
  end = length function.code

  -- what a form's step has
  abbrev Has : ℕ → ℕ → Option ℕ → Type 0
  Has = HasStep unit index function

  -- ---- steps at forms

  -- the operation of a form, as it was read
  abbrev read_as : (k : ℕ) (form : Instr) → slice_get forms k ≡ Some (Op form) → Instr
  read_as k form here = record {
    name = (placed.ops k form here).0;
    a = form.a;
    b = form.b;
    c = form.c;
    next = pos (k + 1);
  }

  -- what its operands name is there, however it is spelled and wherever it ends
  there_too : (kind : Operands) (form : Instr) (name : OpName) (next : ℕ)
      → AreThere unit (function.args + function.locals) kind form
      → AreThere unit (function.args + function.locals) kind
      (record { name = name; a = form.a; b = form.b; c = form.c; next = next })
  there_too operands.Plain form name next there = tt
  there_too _ form name next there = there

  module _ (k : ℕ) (form : Instr) (here : slice_get forms k ≡ Some (Op form)) where
    abbrev found : Stands function.code (pos k) form.name (read_as k form here)
    found = (placed.ops k form here).1

    -- its operands name what is there
    named : AreThere unit (function.args + function.locals) (kind_of form.name)
        (read_as k form here)
    named =
        there_too (kind_of form.name) form (placed.ops k form here).0 (pos (k + 1))
        (ranged k form here)

    -- its row is as its flow says
    says : {flow : Flow} → flow_of unit form ≡ flow → Says unit found.row (read_as k form here) flow
    says flows =
        subst (Says unit found.row (read_as k form here))
        (flow_same unit form.name (placed.ops k form here).0 form.name form.a form.b form.c
        (pos (k + 1)) form.next ∙ flows)
        (says_of unit found.row form.name (read_as k form here) (wired.plain k form here)
        (stands_as unit found))

    -- it goes on behind itself
    goes_step : {takes gives : ℕ} → flow_of unit form ≡ goes takes gives
        → Has (pos k) (pos (k + 1)) None
    goes_step {takes} {gives} flows =
        plain_step unit index function form.name (read_as k form here) found named
        (ap (λ s. s.0) (says flows)) refl (λ takes gives. refl) (λ takes gives. refl)
        (λ takes gives. refl)

    -- or leaves the function
    leaves_step : {takes : ℕ} → flow_of unit form ≡ leaves takes → Has (pos k) (pos (k + 1)) None
    leaves_step {takes} flows =
        plain_step unit index function form.name (read_as k form here) found named
        (ap (λ s. s.0) (says flows)) refl (λ takes gives. refl) (λ takes gives. refl)
        (λ takes gives. refl)

    -- or is one with the jump behind it
    short_step : flow_of unit form ≡ short
        → (n : ℕ) × (slice_get forms (k + 1) ≡ Some (Jump op.TjumpFw n))
        × Has (pos k) (pos (k + 1 + 1)) (Some (pos n))
    short_step flows =
        let pairs = subst (OpFine (flow_of unit) forms d k) flows
        (op_fits site (suc k) (omega arith) here) in
        let jump = placed.jumps (k + 1) pairs.0 op.TjumpFw pairs.1 in (
          pairs.0,
          pairs.1,
          subst (λ (t : ℕ). Has (pos k) (pos (k + 1 + 1)) (Some t)) jump.lands
              (subst (λ (n : ℕ). Has (pos k) n (Some (jump.instr.next + jump.instr.a))) jump.ends
              (pair_step unit index function found named (says flows) jump.stands)),
        )

  -- a jump goes on behind itself, or at its label
  jump_step : {k n : ℕ} {name : OpName} → slice_get forms k ≡ Some (Jump name n)
      → Has (pos k) (pos (k + 1)) (Some (pos n))
  unfolding longest
  jump_step {k} {n} {name} here = by (wired.jumps k n name here).1 (placed.jumps k n name here)
    where
      by : {name : OpName} → LeadsTo k n name → JumpAt function.code pos k n name
          → Has (pos k) (pos (k + 1)) (Some (pos n))
      by (forward less) jump =
          subst (λ (t : ℕ). Has (pos k) (pos (k + 1)) (Some t)) jump.lands
          (subst (λ (m : ℕ). Has (pos k) m (Some (jump.instr.next + jump.instr.a))) jump.ends
          (plain_step unit index function op.JumpFw jump.instr jump.stands tt
          (ap (λ s. s.0) (stands_as unit jump.stands)) refl (λ takes gives. refl)
          (λ takes gives. refl) (λ takes gives. refl)))
      by (tests less) jump =
          subst (λ (t : ℕ). Has (pos k) (pos (k + 1)) (Some t)) jump.lands
          (subst (λ (m : ℕ). Has (pos k) m (Some (jump.instr.next + jump.instr.a))) jump.ends
          (plain_step unit index function op.TjumpFw jump.instr jump.stands tt
          (ap (λ s. s.0) (stands_as unit jump.stands)) refl (λ takes gives. refl)
          (λ takes gives. refl) (λ takes gives. refl)))
      by (backward less) jump =
          subst (λ (t : ℕ). Has (pos k) (pos (k + 1)) (Some t)) jump.lands.1
          (subst (λ (m : ℕ). Has (pos k) m (Some (pos k - jump.instr.a))) jump.ends
          (plain_step unit index function op.JumpBw jump.instr jump.stands tt
          (ap (λ s. s.0) (stands_as unit jump.stands)) refl
          (λ takes gives. le-ltb (pos k) jump.instr.a jump.lands.0) (λ takes gives. refl)
          (λ takes gives. refl)))

  -- ---- the places

  -- where it goes on behind an operation
  behind_op : ℕ → Flow → (ℕ → List ℕ) → List ℕ
  behind_op k short next = next (k + 1 + 1)
  behind_op k _ next = next (k + 1)

  -- the place of a form, and those behind it
  by_form : ℕ → Option Form → (ℕ → List ℕ) → List ℕ
  by_form k None next = []
  by_form k (Some (Op form)) next = pos k ∷ behind_op k (flow_of unit form) next
  by_form k (Some (Jump name n)) next = pos k ∷ next (k + 1)
  by_form k (Some (Label n)) next = next (k + 1)

  -- the places of the forms from one on that are no labels and no second parts of pairs
  walk : ℕ → ℕ → List ℕ
  walk zero k = []
  walk (suc fuel) k = by_form k (slice_get forms k) (walk fuel)

  -- ---- what stands behind a form is no second part of a pair, but for the jump of a short-circuit

  -- behind what is no operation
  first_behind : (k : ℕ) → ((other : Instr) → slice_get forms k ≢ Some (Op other)) → First (k + 1)
  first_behind k never before other after there flows =
      let same : before ≡ k = omega arith in
      never other (subst (λ n. slice_get forms n ≡ Some (Op other)) same there)

  -- behind an operation that is no short-circuit
  first_op : (k : ℕ) {form : Instr} → slice_get forms k ≡ Some (Op form) → flow_of unit form ≢ short
      → First (k + 1)
  first_op k {form} here never before other after there flows =
      let same : before ≡ k = omega arith in
      let both : Some (Op form) ≡ Some (Op other) =
      sym here ∙ subst (λ n. slice_get forms n ≡ Some (Op other)) same there in
      never (ap (flow_of unit) (ap op_or both) ∙ flows)
    where
      op_or : Option Form → Instr
      op_or (Some (Op form)) = form
      op_or _ = form

  -- behind a short-circuit and its jump
  first_pair : (k : ℕ) {n : ℕ} → slice_get forms (k + 1) ≡ Some (Jump op.TjumpFw n)
      → First (k + 1 + 1)
  first_pair k jump = first_behind (k + 1) (λ other there. cc)

  -- a form that stands somewhere stands inside
  inside : {k : ℕ} {form : Form} → slice_get forms k ≡ Some form → k < length forms
  inside {k} {form} here = slice_get_within forms k form here

  -- where no form stands there is none left
  none_left : (k : ℕ) → slice_get forms k ≡ None → length forms ≤ k
  none_left k none = elim (leb_tells (length forms) k) [
    | inl past ↦ past.1
    | inr before ↦
        absurd (cc (slice_get-get_or forms k (Label 0) (omega arith)))
  ]

  -- behind the last form the code ends
  ends_last : (k : ℕ) → length forms ≤ k → k ≤ length forms → pos k ≡ end
  ends_last k least most =
      let same : k ≡ length forms = omega arith in ap pos same ∙ placed.ends

  -- what stands at a form stands inside the code
  op_within : {k : ℕ} {form : Instr} → slice_get forms k ≡ Some (Op form) → pos k < end
  op_within {k} {form} here = grind (arith, common_steps, found, read_within)

  -- and so does a jump
  jump_within : {k n : ℕ} {name : OpName} → slice_get forms k ≡ Some (Jump name n) → pos k < end
  jump_within {k} {n} {name} here =
      let found = placed.jumps k n name here in
      read_within found.stands.row function.code found.stands.reads

  -- ---- jumps lead to them

  -- a place is the end, or among some
  abbrev Lands : ℕ → List ℕ → Type 0
  Lands at places = (at ≡ end) ⊎ (list_any (λ place. eqb place at) places ≡ true)

  -- the first is among them
  lands_first : {at other : ℕ} (places : List ℕ) → other ≡ at → Lands at (other ∷ places)
  lands_first {at} {other} places same =
      inr (ap (λ (b : Bool). b || list_any (λ place. eqb place at) places) (eq-eqb other at same))

  -- what is among those behind it is too
  lands_later : {at : ℕ} (other : ℕ) (places : List ℕ) → Lands at places → Lands at (other ∷ places)
  lands_later {at} other places lands = elim lands [
    | inl last ↦ inl last
    | inr among ↦ inr (by (eqb other at) among)
  ]
    where
      by : (b : Bool) → list_any (λ place. eqb place at) places ≡ true
          → (b || list_any (λ place. eqb place at) places) ≡ true
      by true among = refl
      by false among = among

  -- the place of a form further on, with so much fuel
  abbrev Covers : ℕ → Type 0
  Covers fuel = (k j : ℕ) → length forms ≤ k + fuel → k ≤ j → j ≤ length forms → First j
      → Lands (pos j) (walk fuel k)

  -- the place of a form further on that is no second part of a pair
  covers : (fuel : ℕ) {k j : ℕ} → length forms ≤ k + fuel → k ≤ j → j ≤ length forms → First j
      → Lands (pos j) (walk fuel k)
  unfolding walk behind_op by_form
  covers zero {j} enough least most first = inl (ends_last j (omega arith) most)
  covers (suc fuel) {k} {j} enough least most first =
      by (λ next j enough least most first. covers fuel enough least most first) (slice_get forms k)
      refl
    where
      -- at the place itself, or further on
      from_here : (places : List ℕ) → (k < j → Lands (pos j) places)
          → Lands (pos j) (pos k ∷ places)
      from_here places further = elim (eqb_tells k j) [
        | inl same ↦ lands_first places (ap pos same.1)
        | inr apart ↦
            lands_later (pos k) places (further (let away = apart.1 in omega arith))
      ]

      behind_flow : Covers fuel → (form : Instr) → slice_get forms k ≡ Some (Op form) →
          (flow : Flow)
          → flow_of unit form ≡ flow → k < j
          → Lands (pos j) (behind_op k flow (walk fuel))
      behind_flow rest form here (goes takes gives) flows less =
          rest (k + 1) j (omega arith) (omega arith) most first
      behind_flow rest form here (leaves takes) flows less =
          rest (k + 1) j (omega arith) (omega arith) most first
      behind_flow rest form here short flows less =
          elim (eqb_tells j (k + 1)) [
            | inl same ↦ absurd (first k form same.1 here flows)
            | inr apart ↦
                let away = apart.1 in rest (k + 1 + 1) j (omega arith) (omega arith) most first
          ]

      by : Covers fuel → (form : Option Form) → slice_get forms k ≡ form
          → Lands (pos j) (by_form k form (walk fuel))
      by rest None here =
          let past = none_left k here in inl (ends_last j (omega arith) most)
      by rest (Some (Op form)) here =
          from_here (behind_op k (flow_of unit form) (walk fuel))
          (behind_flow rest form here (flow_of unit form) refl)
      by rest (Some (Jump name n)) here =
          from_here (walk fuel (k + 1))
          (λ less. rest (k + 1) j (omega arith) (omega arith) most first)
      by rest (Some (Label n)) here =
          elim (eqb_tells k j) [
            | inl same ↦
                let less = inside here in
                let e : pos (k + 1) ≡ pos j = placed.labels k n here ∙ ap pos same.1 in
                subst (λ (p : ℕ). Lands p (walk fuel (k + 1))) e
                (rest (k + 1) (k + 1) (omega arith) (omega arith) (omega arith)
                (first_behind k (λ other there. cc)))
            | inr apart ↦
                let away = apart.1 in rest (k + 1) j (omega arith) (omega arith) most first
          ]

  -- all places of the code
  abbrev places : List ℕ
  places = walk (length forms) 0

  -- the first form is no second part
  first_zero : First 0
  first_zero before other after there flows = omega arith

  -- a label's place is the end, or one of them
  label_lands : (n : ℕ) → slice_get forms n ≡ Some (Label n) → Lands (pos n) places
  label_lands n here =
      let less = inside here in
      covers (length forms) (omega arith) (omega arith) (omega arith) (label_first site here)

  -- where a jump lands
  way_lands : {target : ℕ} → Lands target places → (way : Option Way)
      → option_map (λ (way : Way). way.to) way ≡ Some target
      → leads_within places end way ≡ true
  way_lands h0 way h2 = grind (arith, common_steps, places, eq-eqb, end)

  -- a step without a jump, and one whose jump lands
  aimed_step : {at next : ℕ} {target : Option ℕ} → Has at next target
      → ((t : ℕ) → target ≡ Some t → Lands t places)
      → is_aimed unit index function places at ≡ true
  aimed_step {target} has lands =
      ap (has_target places end) has.is
      ∙ ap (λ (b : Bool). not b && leads_within places end has.step.jump) has.stays
      ∙ by has.step.jump has.aims
    where
      by : (way : Option Way) → option_map (λ (way : Way). way.to) way ≡ target
          → leads_within places end way ≡ true
      by None is = refl
      by (Some way) is = way_lands (lands way.to (sym is)) (Some way) refl

  -- ---- the code is instructions at these places

  -- from one place on it is instructions at these, and their jumps lead to places
  record Walks (from : ℕ) (some : List ℕ) : Type 0 where
    runs : Runs unit index function from some end
    aimed : list_all (is_aimed unit index function places) some ≡ true

  -- a step at a place, and those behind it
  one_more : {at next : ℕ} {target : Option ℕ} {some : List ℕ} → Has at next target → at < end
      → ((t : ℕ) → target ≡ Some t → Lands t places) → Walks next some → Walks at (at ∷ some)
  one_more {some} has within lands walks = record {
    runs = (
      refl,
      within,
      (
        has.step,
        (
          has.is,
          subst (λ n. Runs unit index function n some end) (sym has.goes_to) walks.runs,
        ),
      ),
    );
    aimed = ap (λ (b : Bool). b && list_all (is_aimed unit index function places) some)
        (aimed_step has lands) ∙ walks.aimed;
  }

  -- no jump lands anywhere
  none_lands : (t : ℕ) → None ≡ Some t → Lands t places
  none_lands t is = absurd (cc is)

  -- a jump lands at its label
  label_of : {n : ℕ} → slice_get forms n ≡ Some (Label n) → (t : ℕ) → Some (pos n) ≡ Some t
      → Lands t places
  label_of {n} there t is =
      subst (λ (p : ℕ). Lands p places) (ap (λ (o : Option ℕ). unwrap_or o t) is)
      (label_lands n there)

  -- from every form on, with so much fuel
  abbrev WalksFrom : ℕ → Type 0
  WalksFrom fuel = (k : ℕ) → length forms ≤ k + fuel → k ≤ length forms → First k
      → Walks (pos k) (walk fuel k)

  -- from every form on
  walks : (fuel k : ℕ) → length forms ≤ k + fuel → k ≤ length forms → First k
      → Walks (pos k) (walk fuel k)
  unfolding walk behind_op by_form
  walks zero k enough within first =
      record { runs = ends_last k (omega arith) within; aimed = refl }
  walks (suc fuel) k enough within first =
      by (λ next enough within first. walks fuel next enough within first) (slice_get forms k) refl
    where
      op_walks : WalksFrom fuel → (form : Instr) → slice_get forms k ≡ Some (Op form)
          → (flow : Flow) → flow_of unit form ≡ flow
          → Walks (pos k) (pos k ∷ behind_op k flow (walk fuel))
      op_walks rest form here (goes takes gives) flows =
          let less = inside here in
          one_more (goes_step k form here flows) (op_within here) none_lands
          (rest (k + 1) (omega arith) (omega arith) (first_op k here (λ same. cc)))
      op_walks rest form here (leaves takes) flows =
          let less = inside here in
          one_more (leaves_step k form here flows) (op_within here) none_lands
          (rest (k + 1) (omega arith) (omega arith) (first_op k here (λ same. cc)))
      op_walks rest form here short flows =
          let jump = short_step k form here flows in
          let less = inside jump.1 in
          one_more jump.2 (op_within here)
          (label_of (wired.jumps (k + 1) jump.0 op.TjumpFw jump.1).0)
          (rest (k + 1 + 1) (omega arith) (omega arith) (first_pair k jump.1))

      by : WalksFrom fuel → (form : Option Form) → slice_get forms k ≡ form
          → Walks (pos k) (by_form k form (walk fuel))
      by rest None here = record { runs = ends_last k (none_left k here) within; aimed = refl }
      by rest (Some (Op form)) here = op_walks rest form here (flow_of unit form) refl
      by rest (Some (Jump name n)) here =
          let less = inside here in
          one_more (jump_step here) (jump_within here) (label_of (wired.jumps k n name here).0)
          (rest (k + 1) (omega arith) (omega arith) (first_behind k (λ other there. cc)))
      by rest (Some (Label n)) here =
          let less = inside here in
          subst (λ (p : ℕ). Walks p (walk fuel (k + 1))) (placed.labels k n here)
          (rest (k + 1) (omega arith) (omega arith) (first_behind k (λ other there. cc)))

  -- the code splits
  pub split : IsSplit unit index function
  split =
      let all_walks = walks (length forms) 0 (omega arith) (omega arith) first_zero in
      record {
        places = places;
        runs = subst (λ n. Runs unit index function n places end) placed.begins all_walks.runs;
        aimed = all_walks.aimed;
      }
