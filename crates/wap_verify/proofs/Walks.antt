-- Walking from instruction to instruction.
use Rattle.std.proofs.Common.{◌≡◌, ◌≢◌, ℕ, ◌<◌, ◌≤◌, Bool, true, false, eqb, ◌||◌, ◌&&◌, List}
use Rattle.std.proofs.Common.{[], ◌∷◌, ◌++◌, length, get_or, set, Option, Some, None, Result, Ok}
use Rattle.std.proofs.Common.{Err, refl, sym, ap, subst, ◌∙◌, inl, inr, arith}
use mathlib.Core.Bool.{or-true, or-false, or_assoc}
use Rattle.std.specs.Prelude.{not, IfErr}
use Rattle.std.specs.List.{list_all}
use Rattle.std.proofs.lemmas.Bool.{cases_Bool, and_parts, eqb-true, eqb-false}
use Rattle.std.proofs.lemmas.Bool.Decides.{nat_tests}
use Rattle.std.proofs.lemmas.List.{get_or-set_same, get_or-set_other, length-set}
use Rattle.wap_base.proofs.Choices.{ok_same}
use Rattle.wap_unit.specs.declared.unit.Unit.{Unit}
use Rattle.wap_unit.specs.declared.unit.Code.{Code}
use Rattle.wap_verify.specs.declared.step.Step.{Step}
use Rattle.wap_verify.specs.declared.step.Way.{Way}
use Rattle.wap_verify.specs.declared.fault.VerifyFault.{VerifyFault}
use Rattle.wap_verify.specs.declared.fault.VerifyFault.TheVariants as fault
use Rattle.wap_verify.specs.CodePlaces.{step_at}
use Rattle.wap_verify.specs.Sound.{Runs, leads_within, has_target, is_aimed, IsSplit}
use Rattle.wap_verify.specs.Faults.{IsFunctionFault, target}
use Rattle.wap_verify.specs.inside.Work.{is_place, leads_to_mark, is_marked_step}
use Rattle.wap_verify.specs.inside.Work.{Marks, Aimed, GoesOn}

module _ (unit : Unit) (index : ℕ) (function : Code) where
  -- one further
  pub runs_push : (from : ℕ) (places : List ℕ) (at : ℕ) (step : Step)
      → Runs unit index function from places at → at < length function.code
      → step_at unit index function at ≡ Ok step
      → Runs unit index function from (places ++ at ∷ []) step.next
  runs_push from [] at step runs within is = (
    sym runs,
    subst (λ (n : ℕ). n < length function.code) (sym runs) within,
    (step, (subst (λ (n : ℕ). step_at unit index function n ≡ Ok step) (sym runs) is, refl)),
  )
  runs_push from (place ∷ places) at step runs within is = (
    runs.0,
    runs.1,
    (runs.2.0, (runs.2.1.0, runs_push runs.2.0.next places at step runs.2.1.1 within is)),
  )

  -- two walks to the end are one
  pub runs_same : (from : ℕ) (some other : List ℕ)
      → Runs unit index function from some (length function.code)
      → Runs unit index function from other (length function.code) → some ≡ other
  runs_same from [] [] one two = refl
  runs_same from [] (place ∷ other) one two = let within = two.1 in absurd (omega arith)
  runs_same from (place ∷ some) [] one two = let within = one.1 in absurd (omega arith)
  runs_same from (place ∷ some) (place' ∷ other) one two =
      let step_same : one.2.0 ≡ two.2.0 = ok_same one.2.0 two.2.0 (sym one.2.1.0 ∙ two.2.1.0) in
      let next_same : Runs unit index function two.2.0.next some (length function.code) =
      subst (λ (s : Step). Runs unit index function s.next some (length function.code))
      step_same one.2.1.1 in
      ap (λ (p : ℕ). p ∷ some) (one.0 ∙ sym two.0)
      ∙ ap (λ (l : List ℕ). place' ∷ l) (runs_same two.2.0.next some other next_same two.2.1.1)

-- one place more is marked
any_push : (places : List ℕ) (at i : ℕ)
    → is_place (places ++ at ∷ []) i ≡ (is_place places i || eqb at i)
any_push [] at i = or-false (eqb at i)
any_push (place ∷ places) at i =
    ap (λ (b : Bool). eqb place i || b) (any_push places at i)
    ∙ sym (or_assoc (eqb place i) (is_place places i) (eqb at i))

-- a number equals itself
pub eqb-same : (n : ℕ) → eqb n n ≡ true
eqb-same n = grind (arith, nat_tests)

-- numbers that differ are told apart
eqb-apart : (m n : ℕ) → m ≢ n → eqb m n ≡ false
eqb-apart m n apart = grind (arith, nat_tests)

-- the marks after one instruction more
pub marks_push : (unit : Unit) (index : ℕ) (function : Code) (at : ℕ) (marks : List Bool)
    (step : Step) → Marks unit index function at marks → at < length function.code
    → step_at unit index function at ≡ Ok step
    → GoesOn at (length function.code) step
    → Marks unit index function step.next (set marks at true)
marks_push unit index function at marks step so_far within is onward =
    let long = so_far.long in
    let inside : at < length marks = omega arith in
    record {
      places = so_far.places ++ at ∷ [];
      runs = runs_push unit index function 0 so_far.places at step so_far.runs within is;
      within = onward.within;
      long = length-set marks at true ∙ long;
      marked = λ i. elim (cases_Bool (eqb i at)) [
        | inl same ↦
            let e : i ≡ at = eqb-true i at same in
            subst (λ (n : ℕ).
            get_or (set marks at true) n false ≡ is_place (so_far.places ++ at ∷ []) n) (sym e)
            (get_or-set_same marks at true false inside ∙ sym (any_push so_far.places at at
            ∙ ap (λ (b : Bool). is_place so_far.places at || b) (eqb-same at)
            ∙ or-true (is_place so_far.places at)))
        | inr other ↦
            let apart : i ≢ at = eqb-false i at other in
            get_or-set_other marks at i true false apart ∙ so_far.marked i
            ∙ sym (any_push so_far.places at i
            ∙ ap (λ (b : Bool). is_place so_far.places i || b) (eqb-apart at i (λ e. apart (sym e)))
            ∙ or-false (is_place so_far.places i))
      ];
    }

-- ---- faults at an exit

-- a fault that is handed on
pub exit : {X : Type 0} (P : VerifyFault → Type 0) (result : Result X VerifyFault)
    (fault : VerifyFault) → result ≡ Err fault → P fault → IfErr result P
exit {X} P result fault is holds = subst (λ (r : Result X VerifyFault). IfErr r P) (sym is) holds

-- ---- targets

-- one more passes the test
pub all_push : (test : ℕ → Bool) (xs : List ℕ) (x : ℕ) → list_all test xs ≡ true → test x ≡ true
    → list_all test (xs ++ x ∷ []) ≡ true
all_push test [] x all one = ap (λ (b : Bool). b && true) one
all_push test (y ∷ xs) x all one =
    let parts = and_parts (test y) (list_all test xs) all in
    ap (λ (b : Bool). b && list_all test (xs ++ x ∷ [])) parts.0 ∙ all_push test xs x parts.1 one

-- marks and places say the same of a way
leads_same : (places : List ℕ) (marks : List Bool) (end : ℕ) (way : Option Way)
    → ((i : ℕ) → get_or marks i false ≡ is_place places i)
    → leads_to_mark marks end way ≡ leads_within places end way
leads_same places marks end None marked = refl
leads_same places marks end (Some way) marked =
    ap (λ (b : Bool). eqb way.to end || b) (marked way.to)

-- what the marks say of a jump
pub aimed_is : (unit : Unit) (index : ℕ) (function : Code) (marks : List Bool) (at : ℕ)
    (step : Step) (m : Marks unit index function (length function.code) marks)
    → step_at unit index function at ≡ Ok step
    → is_aimed unit index function m.places at ≡ is_marked_step marks (length function.code) step
aimed_is unit index function marks at step m is =
    ap (has_target m.places (length function.code)) is ∙ ap (λ (b : Bool). not step.strays && b)
    (sym (leads_same m.places marks (length function.code) step.jump m.marked))

-- one jump more has its target
pub aimed_push : (unit : Unit) (index : ℕ) (function : Code) (marks : List Bool) (at : ℕ)
    (step : Step) (m : Marks unit index function (length function.code) marks)
    → ((places : List ℕ) → Runs unit index function 0 places (length function.code)
    → Aimed unit index function places at) → at < length function.code
    → step_at unit index function at ≡ Ok step
    → is_marked_step marks (length function.code) step ≡ true
    → GoesOn at (length function.code) step
    → (places : List ℕ) → Runs unit index function 0 places (length function.code)
    → Aimed unit index function places step.next
aimed_push unit index function marks at step m so_far within is aimed onward places runs =
    let before = so_far places runs in
    let same : m.places ≡ places = runs_same unit index function 0 m.places places m.runs runs in
    let one : is_aimed unit index function places at ≡ true =
    subst (λ (l : List ℕ). is_aimed unit index function l at ≡ true) same
    (aimed_is unit index function marks at step m is ∙ aimed) in
    record {
      front = before.front ++ at ∷ [];
      runs = runs_push unit index function 0 before.front at step before.runs within is;
      aimed = all_push (is_aimed unit index function places) before.front at before.aimed one;
      within = onward.within;
    }

-- a jump without a target is the first
pub missed : (unit : Unit) (index : ℕ) (function : Code) (marks : List Bool) (at : ℕ) (step : Step)
    (m : Marks unit index function (length function.code) marks)
    → ((places : List ℕ) → Runs unit index function 0 places (length function.code)
    → Aimed unit index function places at) → at < length function.code
    → step_at unit index function at ≡ Ok step
    → is_marked_step marks (length function.code) step ≡ false
    → IsFunctionFault unit index function (fault.Target index at)
missed unit index function marks at step m so_far within is misses =
    let before = so_far m.places m.runs in
    target m.places before.front at m.runs before.runs within before.aimed
    (aimed_is unit index function marks at step m is ∙ misses) refl

-- at the end each jump has its target
pub all_aimed : (unit : Unit) (index : ℕ) (function : Code) (marks : List Bool) (at : ℕ)
    (m : Marks unit index function (length function.code) marks)
    → ((places : List ℕ) → Runs unit index function 0 places (length function.code)
    → Aimed unit index function places at) → length function.code ≤ at → IsSplit unit index function
all_aimed unit index function marks at m so_far past =
    let whole = so_far m.places m.runs in
    let within = whole.within in
    let at_end : at ≡ length function.code = omega arith in
    let same : whole.front ≡ m.places =
    runs_same unit index function 0 whole.front m.places
    (subst (Runs unit index function 0 whole.front) at_end whole.runs) m.runs in
    record {
      places = m.places;
      runs = m.runs;
      aimed =
          subst (λ (l : List ℕ). list_all (is_aimed unit index function m.places) l ≡ true)
          same whole.aimed;
    }
