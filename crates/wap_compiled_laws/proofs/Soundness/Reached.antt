-- Every place of the code is reached with one number of values at most, and with enough.
use Rattle.std.proofs.Common.{◌≡◌, ◌≢◌, ℕ, zero, suc, ◌+◌, ◌-◌, ◌<◌, ◌≤◌, false, List, [], ◌∷◌}
use Rattle.std.proofs.Common.{length, Option, Some, None, Ok, refl, sym, ap, ◌∙◌, subst, arith}
use Rattle.std.proofs.Common.{slice_get, inl, inr, true≢false}
use Rattle.std.proofs.lemmas.Option.{slice_get-get_or, slice_get_within}
use Rattle.wap_unit.specs.declared.unit.Unit.{Unit as CodeUnit}
use Rattle.wap_unit.specs.declared.unit.Code.{Code}
use Rattle.wap_unit.specs.declared.row.OpName.{OpName}
use Rattle.std.proofs.lemmas.Bool.Decides.{eqb_tells}
use Rattle.wap_unit.specs.declared.row.Row.{Row}
use Rattle.wap_unit.specs.declared.instr.Instr.{Instr}
use Rattle.wap_verify.specs.declared.step.Step.{Step}
use Rattle.wap_verify.specs.declared.step.Way.{Way}
use Rattle.wap_verify.specs.CodePlaces.{step_at}
use Rattle.wap_verify.specs.Paths.{Stand, HasWay, IsPath, Reaches}
use Rattle.wap_asm.specs.Spellings.{longest}
use Rattle.wap_asm.specs.declared.form.Form.{Form}
use Rattle.wap_asm.specs.declared.form.Form.TheVariants.{Op, Jump, Label}
use Rattle.wap_compiled_laws.proofs.Labels.Wired.{is_jump, LeadsTo, forward, tests, backward}
use Rattle.wap_compiled_laws.proofs.Soundness.Spelled.{Stands, JumpAt, IsPlaced, IsWired}
use Rattle.wap_compiled_laws.proofs.Depths.Flow.{Flow, goes, leaves, short, flow_by, flow_of}
use Rattle.wap_compiled_laws.proofs.Depths.Fine.{FineAt, fine, joined, AllFine, OpFine, JumpFine}
use Rattle.wap_compiled_laws.proofs.Depths.Fine.{FormFine}
use Rattle.wap_compiled_laws.proofs.Soundness.Table.{Says, IsAs}
use Rattle.wap_compiled_laws.proofs.Soundness.Stepping.{stands_as, row_step, pair_step}
use Rattle.wap_unit.specs.declared.row.OpName.TheVariants as op
use Rattle.std.proofs.lemmas.Grind.{common_steps}

-- a row of an operation that is no jump is as its flow says
pub says_of : (unit : CodeUnit) (row : Row) (name : OpName) (instr : Instr) → is_jump name ≡ false
    → IsAs unit row name instr → Says unit row instr (flow_by unit name instr)
says_of unit row op.JumpFw instr plain is = absurd (true≢false plain)
says_of unit row op.JumpBw instr plain is = absurd (true≢false plain)
says_of unit row op.TjumpFw instr plain is = absurd (true≢false plain)
says_of unit row op.TjumpBw instr plain is = absurd (true≢false plain)
says_of unit row _ instr plain is = is

-- names and places don't matter
pub flow_same : (unit : CodeUnit) (name some other : OpName) (a b c n m : ℕ)
    → flow_by unit name (record { name = some; a = a; b = b; c = c; next = n })
    ≡ flow_by unit name (record { name = other; a = a; b = b; c = c; next = m })
unfolding longest
flow_same unit op.JumpFw some other a b c n m = refl
flow_same unit _ some other a b c n m = refl

-- the instruction of a form
abbrev instr_or : Option Form → Instr
instr_or (Some (Op instr)) = instr
instr_or _ = record { name = op.Pop; a = 0; b = 0; c = 0; next = 0 }

-- the form that is there
abbrev form_or : Option Form → Form
form_or None = Label 0
form_or (Some form) = form

-- the way that is there
abbrev way_or : Option Way → Way
way_or None = record { to = 0; gives = 0 }
way_or (Some way) = way

-- a function's code in a unit, whose forms stand at places and are wired, with as many operands at
-- each as fit
pub record Walk : Type 0 where
  pub unit : CodeUnit
  pub index : ℕ
  pub function : Code
  pub forms : List Form
  pub pos : ℕ → ℕ
  pub placed : IsPlaced function.code forms pos
  pub wired : IsWired forms
  pub d : ℕ → ℕ
  pub begins : d 0 ≡ 0
  pub all : AllFine (flow_of unit) forms d 0 (length forms)

module _ (walk : Walk) where
  open walk use {unit, index, function, forms, pos, placed, wired, d, begins, all}

  -- the numbers at a form fit
  abbrev Fits : ℕ → Form → Type 0
  Fits k form = FormFine (flow_of unit) forms d k form

  -- every form's do
  covered : {k : ℕ} → k < length forms → FineAt (flow_of unit) forms d k
  covered {k} less = all k (omega arith) (omega arith)

  -- those at an operation
  pub op_fits : (fuel : ℕ) {k : ℕ} {instr : Instr} → k < fuel → slice_get forms k ≡ Some (Op instr)
      → Fits k (Op instr)
  op_fits zero less is = absurd (omega arith)
  op_fits (suc fuel) {k} {instr} less is =
      by (covered (slice_get_within forms k (Op instr) is)) (λ before smaller. op_fits fuel)
    where
      by : FineAt (flow_of unit) forms d k
          → ((before : ℕ) (other : Instr) → before < fuel → slice_get forms before ≡ Some (Op other)
          → Fits before (Op other)) → Fits k (Op instr)
      by (fine f) earlier = subst (Fits k) (ap form_or (sym f.1 ∙ is)) f.2
      by (joined before after other there flows) earlier =
          let pairs = subst (OpFine (flow_of unit) forms d before) flows
          (earlier before other (omega arith) there) in
          absurd (let same = ap (slice_get forms) after in cc)

  -- a short-circuit's jump stands behind it, so nothing else does
  pub after_short : (k : ℕ) {instr : Instr} {form : Form} → slice_get forms k ≡ Some (Op instr)
      → flow_of unit instr ≡ short → slice_get forms (k + 1) ≡ Some form
      → (n : ℕ) × (form ≡ Jump op.TjumpFw n)
  after_short k is flows behind =
      let pairs = subst (OpFine (flow_of unit) forms d k) flows (op_fits (suc k) (omega arith) is)
      in
      (pairs.0, ap form_or (sym behind ∙ pairs.1))

  -- those at a label
  label_fits : (k n : ℕ) → slice_get forms k ≡ Some (Label n) → d (k + 1) ≡ d k
  label_fits k n is = by (covered (slice_get_within forms k (Label n) is))
    where
      by : FineAt (flow_of unit) forms d k → d (k + 1) ≡ d k
      by (fine f) = subst (Fits k) (ap form_or (sym f.1 ∙ is)) f.2
      by (joined before after other there flows) =
          let second = after_short before there flows
          (subst (λ i. slice_get forms i ≡ Some (Label n)) after is) in
          absurd (let same = second.1 in cc)

  -- no second part of a pair stands there
  abbrev pub IsFirst : ℕ → Type 0
  IsFirst k = (before : ℕ) (other : Instr) → k ≡ before + 1
      → slice_get forms before ≡ Some (Op other) → flow_of unit other ≢ short

  -- those at a jump
  pub jump_fits : {k n : ℕ} {name : OpName} → IsFirst k → slice_get forms k ≡ Some (Jump name n)
      → JumpFine (flow_of unit) forms d k name n
  jump_fits {k} {n} {name} first is = by (covered (slice_get_within forms k (Jump name n) is))
    where
      by : FineAt (flow_of unit) forms d k → JumpFine (flow_of unit) forms d k name n
      by (fine f) = subst (Fits k) (ap form_or (sym f.1 ∙ is)) f.2
      by (joined before after other there flows) = absurd (first before other after there flows)

  -- a label is no second part
  pub label_first : {k n : ℕ} → slice_get forms k ≡ Some (Label n) → IsFirst k
  label_first {n} is before other after there flows =
      let second = after_short before there flows
      (subst (λ i. slice_get forms i ≡ Some (Label n)) after is) in
      (let same = second.1 in cc)

  -- a place of the code, and how many values are there: a form that is no label, or the end
  pub record Stands_at (stand : Stand) : Type 0 where
    pub form : ℕ
    pub within : form ≤ length forms
    pub place : pos form ≡ stand.0
    pub values : d form ≡ stand.1
    pub first : IsFirst form
    pub no_label : (n : ℕ) → slice_get forms form ≢ Some (Label n)

  -- a form that is no label is such a place, and so is the end
  stays : {k : ℕ} → k ≤ length forms → IsFirst k → ((n : ℕ) → slice_get forms k ≢ Some (Label n))
      → Stands_at (pos k, d k)
  stays {k} within first no_label = record {
    form = k;
    within = within;
    place = refl;
    values = refl;
    first = first;
    no_label = no_label;
  }

  -- labels are passed
  settles : (fuel : ℕ) {k : ℕ} → length forms ≤ k + fuel → k ≤ length forms → IsFirst k
      → Stands_at (pos k, d k)
  settles zero {k} enough within first =
      stays within first (λ n is. let less = slice_get_within forms k (Label n) is in omega arith)
  settles (suc fuel) {k} enough within first =
      by (slice_get forms k) refl (λ less first. settles fuel (omega arith) less first)
    where
      by : (form : Option Form) → slice_get forms k ≡ form
          → (k + 1 ≤ length forms → IsFirst (k + 1) → Stands_at (pos (k + 1), d (k + 1)))
          → Stands_at (pos k, d k)
      by (Some (Label n)) is later =
          subst (λ (p : ℕ). Stands_at (p, d k)) (placed.labels k n is)
          (subst (λ (v : ℕ). Stands_at (pos (k + 1), v)) (label_fits k n is)
          (later (let less = slice_get_within forms k (Label n) is in omega arith)
          (λ before other after there flows.
          let same : k ≡ before = omega arith in absurd cc)))
      by _ is later = stays within first (λ n other. absurd cc)

  -- a form that stands at a place settles there
  arrives : {k : ℕ} {there : Stand} → k ≤ length forms → IsFirst k → pos k ≡ there.0 → d k ≡ there.1
      → Stands_at there
  arrives {k} {there} within first place values =
      subst (λ (v : ℕ). Stands_at (there.0, v)) values
      (subst (λ (p : ℕ). Stands_at (p, d k)) place
      (settles (length forms) (omega arith) within first))

  module _ (here : Stand) (at : Stands_at here) (inside : here.0 < length function.code)
      (step : Step) (is_step : step_at unit index function here.0 ≡ Ok step) where
    -- the form that stands there
    abbrev k : ℕ
    k = at.form

    -- the step at its place
    stands_here : step_at unit index function (pos k) ≡ Ok step
    stands_here =
        subst (λ (p : ℕ). step_at unit index function p ≡ Ok step) (sym at.place) is_step

    -- a step takes no more than there is, and each of its ways leads to a place with its number
    record Leading (other : Step) : Type 0 where
      enough : other.takes ≤ here.1
      ways : (way : Way) → HasWay other way
          → Stands_at (way.to, here.1 - other.takes + way.gives)

    -- of a step that is the same
    moves : {other : Step} → step ≡ other → Leading other → Leading step
    moves same = subst Leading (sym same)

    -- on to what stands after it
    goes_on : {to gives : ℕ} (takes : ℕ) {next : ℕ} {way : Way}
        → way ≡ record { to = to; gives = gives } → pos next ≡ to → next ≤ length forms
        → IsFirst next → d next ≡ d k - takes + gives
        → Stands_at (way.to, here.1 - takes + way.gives)
    goes_on {to} {gives} takes is place within first values =
        arrives within first (place ∙ sym (ap (λ (w : Way). w.to) is))
        (values ∙ ap (λ (v : ℕ). v - takes + gives) at.values
        ∙ sym (ap (λ (w : Way). here.1 - takes + w.gives) is))

    -- it is no end
    not_at_end : k < length forms
    not_at_end = grind (arith, common_steps, eqb_tells, k)

    -- what stands behind a jump is no second part of a pair
    behind_jump : (j : ℕ) {n : ℕ} {name : OpName} → slice_get forms j ≡ Some (Jump name n)
        → IsFirst (j + 1)
    behind_jump j is before other after there flows =
        let same : j ≡ before = omega arith in cc

    -- an operation
    module _ (instr : Instr) (is : slice_get forms k ≡ Some (Op instr)) where
      abbrev here_name : OpName
      here_name = (placed.ops k instr is).0

      abbrev here_instr : Instr
      here_instr = record {
        name = here_name;
        a = instr.a;
        b = instr.b;
        c = instr.c;
        next = pos (k + 1);
      }

      abbrev found : Stands function.code (pos k) instr.name here_instr
      found = (placed.ops k instr is).1

      says : {flow : Flow} → flow_of unit instr ≡ flow → Says unit found.row here_instr flow
      says flows =
          subst (Says unit found.row here_instr)
          (flow_same unit instr.name here_name instr.name instr.a instr.b instr.c (pos (k + 1))
          instr.next ∙ flows) (says_of unit found.row instr.name here_instr (wired.plain k instr is)
          (stands_as unit found))

      by_flow : (flow : Flow) → flow_of unit instr ≡ flow
          → OpFine (flow_of unit) forms d k flow → Leading step
      by_flow (goes takes gives) flows fits =
          moves (row_step unit index function (pos k) found refl (says flows) stands_here) (record {
            enough = (let values = at.values in omega (arith, fits.0));
            ways = λ way has. elim has [
              | inl on ↦
                  goes_on takes (sym (ap way_or on)) refl (let less = not_at_end in omega arith)
                  (λ before other after there shorts.
                  let same : k ≡ before = omega arith in
                  let instrs : instr ≡ other =
                  ap instr_or (sym is ∙ ap (slice_get forms) same ∙ there) in
                  (let both = sym flows ∙ ap (flow_of unit) instrs ∙ shorts in cc))
                  fits.1
              | inr none ↦ absurd (cc none)
            ];
          })
      by_flow (leaves takes) flows fits =
          moves (row_step unit index function (pos k) found refl (says flows) stands_here) (record {
            enough = (let values = at.values in omega (arith, fits));
            ways = λ way has. elim has [
              | inl none ↦ absurd (cc none)
              | inr none ↦ absurd (cc none)
            ];
          })
      by_flow short flows fits =
          let jump = placed.jumps (k + 1) fits.0 op.TjumpFw fits.1 in
          let label = (wired.jumps (k + 1) fits.0 op.TjumpFw fits.1).0 in
          let room = slice_get_within forms fits.0 (Label fits.0) label in
          moves (pair_step unit index function (pos k) found (says flows) jump.stands stands_here)
          (record {
            enough = (let values = at.values in omega (arith, fits.3));
            ways = λ way has. elim has [
              | inl on ↦
                  goes_on 1 (sym (ap way_or on)) (sym jump.ends)
                  (omega (arith, slice_get_within forms (k + 1) (Jump op.TjumpFw fits.0) fits.1))
                  (behind_jump (k + 1) fits.1) (omega (arith, fits.3))
              | inr jumps ↦
                  goes_on 1 (sym (ap way_or jumps)) (sym jump.lands) (omega arith)
                  (label_first label) (omega (arith, fits.2, fits.3))
            ];
          })

    -- a jump
    from_jump : {name : OpName} {n : ℕ} → slice_get forms k ≡ Some (Jump name n) → Leading step
    from_jump {name} {n} is =
        by (wired.jumps k n name is).1 (placed.jumps k n name is) (jump_fits at.first is)
      where
        label : slice_get forms n ≡ Some (Label n)
        label = (wired.jumps k n name is).0

        -- to its label
        lands : {gives : ℕ} (takes : ℕ) {way to : Way} → Some to ≡ Some way → pos n ≡ to.to
            → to.gives ≡ gives → d n ≡ d k - takes + gives
            → Stands_at (way.to, here.1 - takes + way.gives)
        lands {gives} takes {way} {to} on place same values =
            let room = slice_get_within forms n (Label n) label in
            subst (λ (w : Way). Stands_at (w.to, here.1 - takes + w.gives)) (ap way_or on)
            (goes_on takes {way = to} (ap (λ (g : ℕ). record { to = to.to; gives = g }) same) place
            (omega arith) (label_first label) values)

        by : {name : OpName} → LeadsTo k n name → JumpAt function.code pos k n name
            → JumpFine (flow_of unit) forms d k name n → Leading step
        by (forward less) jump fits =
            moves (row_step unit index function (pos k) jump.stands refl
            (stands_as unit jump.stands) stands_here) (record {
              enough = omega arith;
              ways = λ way has. elim has [
                | inl none ↦ absurd (cc none)
                | inr on ↦ lands 0 on (sym jump.lands) refl (omega arith)
              ];
            })
        by (tests less) jump fits =
            moves (row_step unit index function (pos k) jump.stands refl
            (stands_as unit jump.stands) stands_here) (record {
              enough = (let values = at.values in omega (arith, fits.0));
              ways = λ way has. elim has [
                | inl on ↦
                    goes_on 1 (sym (ap way_or on)) (sym jump.ends)
                    (let less = not_at_end in omega arith) (behind_jump k is)
                    (omega (arith, fits.0, fits.1))
                | inr on ↦ lands 1 on (sym jump.lands) refl (omega (arith, fits.0))
              ];
            })
        by (backward less) jump fits =
            moves (row_step unit index function (pos k) jump.stands refl
            (stands_as unit jump.stands) stands_here) (record {
              enough = omega arith;
              ways = λ way has. elim has [
                | inl none ↦ absurd (cc none)
                | inr on ↦ lands 0 on (sym jump.lands.1) refl (omega arith)
              ];
            })

    -- every form
    leading : Leading step
    leading = by (slice_get forms k) refl
      where
        by : (form : Option Form) → slice_get forms k ≡ form → Leading step
        by None is = absurd (cc (slice_get-get_or forms k (Label 0) not_at_end))
        by (Some (Op instr)) is =
            by_flow instr is (flow_of unit instr) refl (op_fits (suc k) (omega arith) is)
        by (Some (Jump name n)) is = from_jump is
        by (Some (Label n)) is = absurd (at.no_label n is)

  -- the first place has none
  starts : Stands_at (0, 0)
  starts =
      arrives (omega arith) (λ before other after there flows. omega arith) placed.begins begins

  -- every path leads to a place with its number
  pub path_stands : {stand : Stand} (before : List Stand)
      → IsPath unit index function (stand ∷ before) → Stands_at stand
  path_stands {stand} [] path =
      subst (λ (v : ℕ). Stands_at (stand.0, v)) (sym path.1)
      (subst (λ (p : ℕ). Stands_at (p, 0)) (sym path.0) starts)
  path_stands {stand} (here ∷ before) path =
      let leads = path.0 in
      subst (λ (v : ℕ). Stands_at (stand.0, v)) (sym leads.values)
      (subst (λ (p : ℕ). Stands_at (p, here.1 - leads.step.takes + leads.way.gives)) (sym leads.to)
      ((leading here (path_stands before path.1) leads.within leads.step leads.stands).ways
      leads.way leads.has))

  -- as many values as are taken
  pub enough : (at values : ℕ) (step : Step) → at < length function.code
      → Reaches unit index function at values → step_at unit index function at ≡ Ok step
      → step.takes ≤ values
  enough at values step within reaches is =
      let stands = path_stands reaches.before reaches.path in
      (leading (at, values) stands within step is).enough
