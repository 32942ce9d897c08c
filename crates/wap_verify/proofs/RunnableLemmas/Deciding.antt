-- A unit passes the test exactly where it is verified, and has a fault exactly where it doesn't.
use Rattle.std.proofs.Common.{◌≡◌, ◌↔◌, ℕ, suc, ◌+◌, Bool, true, false, List, [], ◌∷◌, length}
use Rattle.std.proofs.Common.{Option, Some, None, refl, sym, ap, subst, ◌∙◌, inl, inr, arith}
use Rattle.std.specs.Prelude.{◌&&◌, is_none, slice_get}
use Rattle.std.proofs.lemmas.Bool.{cases_Bool, cases_lt, and_parts}
use Rattle.wap_base.proofs.Choices.{some_same}
use Rattle.wap_unit.specs.declared.unit.Unit.{Unit}
use Rattle.wap_unit.specs.declared.unit.Code.{Code}
use Rattle.wap_verify.specs.declared.fault.VerifyFault.{VerifyFault}
use Rattle.wap_verify.specs.declared.fault.VerifyFault.TheVariants as fault
use Rattle.wap_verify.specs.Sound.{IsSound, stray_pragma, AreSound, IsVerified}
use Rattle.wap_verify.specs.Faults.{IsFault, pragma, function}
use Rattle.wap_verify.proofs.Verifying.{unverified}
use Rattle.wap_verify.specs.runnable.Runnable.{is_split, has_depths, is_sound, are_sound, may_run}
use Rattle.wap_verify.proofs.RunnableLemmas.Splitting.{HasFault, split_or_fault}
use Rattle.wap_verify.proofs.RunnableLemmas.Settling.{fails_at, Sound, sound_or_fault}

-- ---- a function

module _ (unit : Unit) (index : ℕ) (code : Code) where
  sound_when : (b : Bool) → is_sound unit index code ≡ b → Sound unit index code b
  unfolding is_sound
  sound_when true is =
      let parts = and_parts (is_split unit index code) (has_depths unit index code) is in
      sound_or_fault unit index code (split_or_fault unit index code true parts.0) true parts.1
  sound_when false is =
      elim (fails_at (is_split unit index code) (has_depths unit index code) is) [
        | inl broken ↦ split_or_fault unit index code false broken
        | inr whole ↦
            sound_or_fault unit index code (split_or_fault unit index code true whole.0) false
            whole.1
      ]

-- ---- all functions

module _ (unit : Unit) where
  -- some function isn't sound, and all before it are
  record HasUnsound : Type 0 where
    index : ℕ
    code : Code
    there : slice_get unit.functions index ≡ Some code
    before : AreSound unit index
    fault : HasFault unit index code

  -- the functions of an index and of those after it
  abbrev IsRest : ℕ → List Code → Type 0
  IsRest index rest =
      (n : ℕ) → slice_get unit.functions (index + n) ≡ slice_get rest n

  rest_on : (index : ℕ) (code : Code) (rest : List Code) → IsRest index (code ∷ rest)
      → IsRest (suc index) rest
  rest_on index code rest is n =
      ap (slice_get unit.functions) (omega arith) ∙ is (suc n)

  here : (index : ℕ) (code : Code) (rest : List Code) → IsRest index (code ∷ rest)
      → slice_get unit.functions index ≡ Some code
  here index code rest is = ap (slice_get unit.functions) (omega arith) ∙ is 0

  -- one more is sound
  sound_on : (index : ℕ) (code : Code) → slice_get unit.functions index ≡ Some code
      → AreSound unit index → IsSound unit index code → AreSound unit (suc index)
  sound_on index code there before sound = λ i other within is. elim (cases_lt i index) [
    | inl less ↦ before i other less is
    | inr more ↦
        let same : i ≡ index = omega arith in
        subst (λ (n : ℕ). IsSound unit n other) (sym same)
        (subst (IsSound unit index) (some_same code other
        (sym there ∙ ap (slice_get unit.functions) (sym same) ∙ is)) sound)
  ]

  -- whether all are sound is right
  abbrev All : ℕ → List Code → Bool → Type 0
  All index rest true = AreSound unit (index + length rest)
  All index rest false = HasUnsound

  all_on : (index : ℕ) (code : Code) (rest : List Code) (b : Bool) → All (suc index) rest b
      → All index (code ∷ rest) b
  all_on index code rest true is = subst (AreSound unit) (omega arith) is
  all_on index code rest false is = is

  -- whether these and those before them are sound is right, from each index
  abbrev Each : List Code → Type 0
  Each rest =
      (index : ℕ) → IsRest index rest → AreSound unit index
      → (b : Bool) → are_sound unit index rest ≡ b → All index rest b

  all_when : (rest : List Code) → Each rest
  all_when [] index left before true is = subst (AreSound unit) (omega arith) before
  all_when [] index left before false is = absurd (cc is)
  all_when (code ∷ rest) index left before b is =
      by_first (λ n. all_when rest n) (is_sound unit index code) refl is
    where
      by_first : Each rest → (one : Bool) → is_sound unit index code ≡ one
          → (one && are_sound unit (suc index) rest) ≡ b → All index (code ∷ rest) b
      by_first others true sound is_rest =
          all_on index code rest b
          (others (suc index) (rest_on index code rest left)
          (sound_on index code (here index code rest left) before
          (sound_when unit index code true sound)) b is_rest)
      by_first others false sound is_rest = subst (All index (code ∷ rest)) is_rest (record {
        index = index;
        code = code;
        there = here index code rest left;
        before = before;
        fault = sound_when unit index code false sound;
      })

  -- at first all are left
  all_rest : IsRest 0 unit.functions
  all_rest n = ap (slice_get unit.functions) (omega arith)

  no_function : AreSound unit 0
  no_function index code within is = absurd (omega arith)

  -- ---- units

  -- the pragma that names no string, if there is one
  stray : (found : Option ℕ) → is_none found ≡ false → (index : ℕ) × (found ≡ Some index)
  stray None is = absurd (cc is)
  stray (Some index) is = (index, refl)

  not_stray : (found : Option ℕ) → is_none found ≡ true → found ≡ None
  not_stray None is = refl
  not_stray (Some index) is = absurd (cc is)

  of_unsound : stray_pragma unit ≡ None → HasUnsound → (found : VerifyFault) × IsFault unit found
  of_unsound none some =
      (some.fault.0, function some.index some.code none some.there some.before some.fault.1)

  pub verified_when : may_run unit ≡ true → IsVerified unit
  unfolding may_run
  verified_when is =
      let parts = and_parts (is_none (stray_pragma unit)) (are_sound unit 0 unit.functions) is in
      record {
        pragmas = not_stray (stray_pragma unit) parts.0;
        functions =
            subst (AreSound unit) (omega arith)
            (all_when unit.functions 0 all_rest no_function true parts.1);
      }

  pub fault_when : may_run unit ≡ false → (found : VerifyFault) × IsFault unit found
  unfolding may_run
  fault_when is =
      elim (fails_at (is_none (stray_pragma unit)) (are_sound unit 0 unit.functions) is) [
        | inl strays ↦
            let one = stray (stray_pragma unit) strays in
            (fault.Pragma one.0, pragma one.0 one.1 refl)
        | inr functions ↦
            of_unsound (not_stray (stray_pragma unit) functions.0)
            (all_when unit.functions 0 all_rest no_function false functions.1)
      ]

  pub passes : (may_run unit ≡ true) ↔ IsVerified unit
  passes = (
    verified_when,
    λ verified. elim (cases_Bool (may_run unit)) [
      | inl may ↦ may
      | inr not ↦
          let found = fault_when not in
          absurd (unverified unit found.0 verified found.1)
    ],
  )

  pub fails : (may_run unit ≡ false) ↔ ((found : VerifyFault) × IsFault unit found)
  fails = (
    fault_when,
    λ found. elim (cases_Bool (may_run unit)) [
      | inl may ↦ absurd (unverified unit found.0 (verified_when may) found.1)
      | inr not ↦ not
    ],
  )
