-- Each place of a function is reached with one number of values, and with enough, or the function
-- has a fault of the third pass.
use Rattle.std.proofs.Common.{◌≡◌, ℕ, zero, suc, ◌+◌, ◌-◌, ◌<◌, ◌≤◌, ltb, leb, Bool, true, false}
use Rattle.std.proofs.Common.{List, [], ◌∷◌, ◌++◌, length, Option, Some, None}
use Rattle.std.proofs.Common.{refl, sym, ap, subst, ◌∙◌, ◌⊎◌, inl, inr, arith}
use Rattle.std.specs.Prelude.{◌&&◌, ◌≢◌}
use Rattle.std.proofs.lemmas.Bool.{ltb-true, ltb-false, leb-true, leb-false, eqb-true, eqb-false}
use Rattle.std.proofs.lemmas.Bool.{cases_Bool, cond-true, cond-false, and_parts}
use Rattle.std.proofs.lemmas.List.{length-append}
use Rattle.wap_base.proofs.Choices.{some_same}
use Rattle.wap_unit.specs.declared.unit.Unit.{Unit}
use Rattle.wap_unit.specs.declared.unit.Code.{Code}
use Rattle.wap_verify.specs.declared.step.Step.{Step}
use Rattle.wap_verify.specs.declared.step.Way.{Way}
use Rattle.wap_verify.specs.declared.fault.VerifyFault.{VerifyFault}
use Rattle.wap_verify.specs.declared.fault.VerifyFault.TheVariants as fault
use Rattle.wap_verify.specs.CodePlaces.{way_on}
use Rattle.wap_verify.specs.Paths.{Stand}
use Rattle.wap_verify.specs.Sound.{IsSplit, IsSound}
use Rattle.wap_verify.specs.inside.Work.{AgreesWith, Works, Visits}
use Rattle.wap_verify.specs.Depths.{State, depth_of, followed, effort}
use Rattle.wap_verify.specs.inside.Kept.{IsConflictOn}
use Rattle.wap_verify.proofs.Working.{stands_reached, kept_within, Here, too_few, can_on, can_jump}
use Rattle.wap_verify.proofs.Working.{sane_on, conflict_fault, visited, popped_sane, popped_here}
use Rattle.wap_verify.proofs.Working.{works_on, sound_at_end, works_first}
use Rattle.wap_verify.specs.runnable.Runnable.{is_same_depth, agrees, may_follow, both_followed}
use Rattle.wap_verify.specs.runnable.Runnable.{visits, beside, last_of, without_last, visits_last}
use Rattle.wap_verify.specs.runnable.Runnable.{works_out, begun, has_depths}
use Rattle.wap_verify.proofs.RunnableLemmas.Onward.{goes_on}
use Rattle.wap_verify.proofs.RunnableLemmas.Splitting.{HasFault}

-- ---- lists

-- a list is those before its last, and its last
abbrev IsParted : {A : Type 0} → List A → Option (List A × A) → Type 0
IsParted list None = list ≡ []
IsParted list (Some parts) = list ≡ parts.0 ++ parts.1 ∷ []

parted_beside : {A : Type 0} (x : A) (list : List A) (parts : Option (List A × A))
    → IsParted list parts → IsParted (x ∷ list) (Some (beside x parts))
parted_beside x list None is = ap (λ l. x ∷ l) is
parted_beside x list (Some parts) is = ap (λ l. x ∷ l) is

parted : {A : Type 0} (list : List A) → IsParted list (last_of list)
parted [] = refl
parted (x ∷ list) = parted_beside x list (last_of list) (parted list)

-- ---- numbers that are kept

-- no other number is kept, or this one is
same_depth : (values : ℕ) (kept : Option (Option ℕ)) → is_same_depth values kept ≡ true
    → (other : ℕ) → kept ≡ Some (Some other) → other ≡ values
same_depth values None is other same = absurd (cc same)
same_depth values (Some None) is other same = absurd (cc same)
same_depth values (Some (Some some)) is other same =
    let one : some ≡ other = some_same some other (some_same (Some some) (Some other) same) in
    sym one ∙ eqb-true some values is

record OtherDepth (values : ℕ) (kept : Option (Option ℕ)) : Type 0 where
  other : ℕ
  there : kept ≡ Some (Some other)
  apart : values ≢ other

other_depth : (values : ℕ) (kept : Option (Option ℕ)) → is_same_depth values kept ≡ false
    → OtherDepth values kept
other_depth values None is = absurd (cc is)
other_depth values (Some None) is = absurd (cc is)
other_depth values (Some (Some some)) is =
    record { other = some; there = refl; apart = λ same. eqb-false some values is (sym same) }

agreed : (state : State) (left : ℕ) (way : Option Way) → agrees state left way ≡ true
    → AgreesWith state left way
agreed state left None is = tt
agreed state left (Some way) is = same_depth (left + way.gives) (depth_of state way.to) is

-- the fault of two numbers at one place
abbrev conflict_of : (state : State) (index left : ℕ) (way : Option Way)
    → agrees state left way ≡ false → VerifyFault
conflict_of state index left None is = fault.NoMemory
conflict_of state index left (Some way) is =
    fault.Depths index way.to (left + way.gives)
    (other_depth (left + way.gives) (depth_of state way.to) is).other

conflicts : (state : State) (index left : ℕ) (way : Option Way)
    (is : agrees state left way ≡ false)
    → IsConflictOn state index left way (conflict_of state index left way is)
conflicts state index left None is = absurd (cc is)
conflicts state index left (Some way) is =
    let found = other_depth (left + way.gives) (depth_of state way.to) is in
    record { other = found.other; kept = found.there; apart = found.apart; fault = refl }

-- a test of two parts fails at the first, or at the second
pub fails_at : (a b : Bool) → (a && b) ≡ false → (a ≡ false) ⊎ ((a ≡ true) × (b ≡ false))
fails_at true b is = inr (refl, is)
fails_at false b is = inl refl

module _ (unit : Unit) (index : ℕ) (function : Code) where
  -- whether it is sound is right
  abbrev pub Sound : Bool → Type 0
  Sound true = IsSound unit index function
  Sound false = HasFault unit index function

  -- ---- a visit

  module _ (state : State) (at values : ℕ) (step : Step)
      (here : Here unit index function state at values step) where
    -- the values that are left
    abbrev left : ℕ
    left = values - step.takes

    -- where the way on was followed
    abbrev middle : State
    middle = followed state left (way_on step)

    follows : may_follow state values step ≡ true
        → Visits unit index function state (both_followed state values step) at values
    follows may =
        let parts =
        and_parts (leb step.takes values)
        (agrees state left (way_on step) && agrees middle left step.jump) may in
        let ways = and_parts (agrees state left (way_on step)) (agrees middle left step.jump)
        parts.1 in
        visited unit index function state at values step here (leb-true step.takes values parts.0)
        (agreed state left (way_on step) ways.0) (agreed middle left step.jump ways.1)

    stops : may_follow state values step ≡ false → HasFault unit index function
    stops not =
        elim (fails_at (leb step.takes values)
        (agrees state left (way_on step) && agrees middle left step.jump) not) [
          | inl few ↦ (
            _,
            too_few unit index function state at values step here
                (leb-false step.takes values few),
          )
          | inr enough ↦
              let takes = leb-true step.takes values enough.0 in
              elim (fails_at (agrees state left (way_on step)) (agrees middle left step.jump)
              enough.1) [
                | inl on ↦ (
                  _,
                  conflict_fault unit index function state left (way_on step)
                      (conflict_of state index left (way_on step) on) here.split here.sane
                      (can_on unit index function state at values step here takes)
                      (conflicts state index left (way_on step) on),
                )
                | inr jump ↦ (
                  _,
                  conflict_fault unit index function middle left step.jump
                      (conflict_of middle index left step.jump jump.1) here.split
                      (sane_on unit index function state at values step here takes)
                      (can_jump unit index function state at values step here takes)
                      (conflicts middle index left step.jump jump.1),
                )
              ]
        ]

  -- ---- all that wait

  module _ (split : IsSplit unit index function) where
    -- the work of so many visits at most, from each state
    abbrev Work : ℕ → Type 0
    Work fuel =
        (state : State) → Works unit index function state → effort state < fuel
        → (b : Bool) → works_out fuel unit index function state ≡ b → Sound b

    works : (fuel : ℕ) → Work fuel
    unfolding works_out
    works zero state so more b is = absurd (omega arith)
    works (suc fuel) state so more b is =
        by_last (λ after. works fuel after) (last_of state.pending) (parted state.pending) is
      where
        by_visit : Work fuel → (rest : List Stand) (at values : ℕ) → state.pending
            ≡ rest ++ (at, values) ∷ []
            → (step : Step)
            → (here : Here unit index function (without_last state rest) at values step)
            → (may : Bool) → may_follow (without_last state rest) values step ≡ may
            → (may && works_out fuel unit index function
            (both_followed (without_last state rest) values step)) ≡ b → Sound b
        by_visit further rest at values pops step here true may on =
            let done = follows (without_last state rest) at values step here may in
            let less = done.grows.less in
            let shorter = ap length pops ∙ length-append rest ((at, values) ∷ []) in
            further (both_followed (without_last state rest) values step)
            (works_on unit index function state rest at values
            (both_followed (without_last state rest) values step) so pops done) (omega arith) b on
        by_visit further rest at values pops step here false may on =
            subst Sound on (stops (without_last state rest) at values step here may)

        by_last : Work fuel → (parts : Option (List Stand × Stand)) → IsParted state.pending parts
            → visits_last (works_out fuel unit index function) unit index function state parts ≡ b
            → Sound b
        by_last further None none on =
            subst Sound on (sound_at_end unit index function state so none split)
        by_last further (Some parts) pops on =
            let rest : List Stand = parts.0 in
            let at : ℕ = parts.1.0 in
            let values : ℕ = parts.1.1 in
            let sane = popped_sane unit index function state rest at values so pops in
            let kept = popped_here unit index function state rest at values so pops in
            let within =
            kept_within unit index function (without_last state rest) at values sane kept in
            let stands =
            stands_reached unit index function split at values (sane.reached at values kept) within
            in
            by_visit further rest at values pops stands.0 (record {
              split = split;
              sane = sane;
              kept_here = kept;
              stands = stands.1;
              goes_on = goes_on unit index function at stands.0 within stands.1;
            }) (may_follow (without_last state rest) values stands.0) refl
            (sym (ap (visits (works_out fuel unit index function) (without_last state rest) values)
            stands.1) ∙ on)

    -- code without instructions is sound
    empty_is_sound : length function.code ≤ 0 → IsSound unit index function
    empty_is_sound none = record {
      split = split;
      one = λ at some other within first second. absurd (omega arith);
      enough = λ at values step within reached is. absurd (omega arith);
    }

    pub sound_or_fault : (b : Bool) → has_depths unit index function ≡ b → Sound b
    sound_or_fault b is = elim (cases_Bool (ltb 0 (length function.code))) [
      | inl some ↦
          works (1 + effort (begun (length function.code))) (begun (length function.code))
          (works_first unit index function (ltb-true 0 (length function.code) some)) (omega arith) b
          (sym (cond-true (ltb 0 (length function.code)) _ true some) ∙ is)
      | inr none ↦
          subst Sound (sym (cond-false (ltb 0 (length function.code)) _ true none) ∙ is)
          (empty_is_sound (ltb-false 0 (length function.code) none))
    ]
