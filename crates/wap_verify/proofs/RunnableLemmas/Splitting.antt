-- Code is whole instructions whose jumps have targets, or it has a fault of the first two passes.
use Rattle.std.proofs.Common.{◌≡◌, ℕ, zero, suc, ◌+◌, ◌<◌, ◌≤◌, ltb, Bool, true, false, List, []}
use Rattle.std.proofs.Common.{◌∷◌}
use Rattle.std.proofs.Common.{◌++◌, length, Option, Some, None, Result, Ok, Err, refl, sym, ap}
use Rattle.std.proofs.Common.{subst, ◌∙◌, inl, inr, arith}
use Rattle.std.specs.Prelude.{◌&&◌, option_map}
use Rattle.std.specs.List.{list_all}
use Rattle.std.proofs.lemmas.Bool.{ltb-true, ltb-false, cases_Bool}
use Rattle.wap_unit.specs.declared.unit.Unit.{Unit}
use Rattle.wap_unit.specs.declared.unit.Code.{Code}
use Rattle.wap_verify.specs.declared.step.Step.{Step}
use Rattle.wap_verify.specs.declared.fault.VerifyFault.{VerifyFault}
use Rattle.wap_verify.specs.CodePlaces.{step_at}
use Rattle.wap_verify.specs.Sound.{Runs, is_aimed, IsSplit}
use Rattle.wap_verify.specs.Faults.{IsFunctionFault, item, target}
use Rattle.wap_verify.proofs.Walks.{runs_push, all_push}
use Rattle.wap_verify.specs.runnable.Runnable.{places_after, places_from, are_aimed, is_split}
use Rattle.wap_verify.proofs.RunnableLemmas.Onward.{goes_on}

module _ (unit : Unit) (index : ℕ) (function : Code) where
  -- a fault of the function
  abbrev pub HasFault : Type 0
  HasFault = (found : VerifyFault) × IsFunctionFault unit index function found

  -- ---- whole instructions

  -- from a place to the end there are these instructions, or something else stands among them
  abbrev Walked : ℕ → Option (List ℕ) → Type 0
  Walked at None = HasFault
  Walked at (Some places) = Runs unit index function at places (length function.code)

  walked_on : (at : ℕ) (step : Step) → at < length function.code
      → step_at unit index function at ≡ Ok step → (rest : Option (List ℕ)) → Walked step.next rest
      → Walked at (option_map (λ places. at ∷ places) rest)
  walked_on at step within is None walked = walked
  walked_on at step within is (Some places) walked = (refl, within, (step, (is, walked)))

  -- the walk of so many instructions at most, from each place
  abbrev Walk : ℕ → Type 0
  Walk fuel =
      (at : ℕ) (front : List ℕ) → Runs unit index function 0 front at → at ≤ length function.code
      → length function.code < fuel + at → Walked at (places_from fuel unit index function at)

  walks : (fuel : ℕ) → Walk fuel
  unfolding places_from
  walks zero at front runs within more = absurd (omega arith)
  walks (suc fuel) at front runs within more = elim (cases_Bool (ltb at (length function.code))) [
    | inl before ↦
        let inside = ltb-true at (length function.code) before in
        rw before (by_step (λ n. walks fuel n) inside (step_at unit index function at) refl)
    | inr past ↦
        let beyond = ltb-false at (length function.code) past in
        rw past (ends (omega arith))
  ] where
    ends : at ≡ length function.code → Walked at (Some [])
    ends is = is

    by_step : Walk fuel → at < length function.code → (r : Result Step VerifyFault)
        → step_at unit index function at ≡ r
        → Walked at (option_map (λ places. at ∷ places)
        (places_after (places_from fuel unit index function) r))
    by_step further inside (Err found) is = (found, item front at runs inside is)
    by_step further inside (Ok step) is =
        let on = goes_on unit index function at step inside is in
        let onward = on.onward in
        walked_on at step inside is (places_from fuel unit index function step.next)
        (further step.next (front ++ at ∷ [])
        (runs_push unit index function 0 front at step runs inside is) on.within (omega arith))

  -- ---- targets

  -- each jump has its target, or there is a first one that has none
  aims : (places front rest : List ℕ) (at : ℕ)
      → Runs unit index function 0 places (length function.code)
      → Runs unit index function 0 front at
      → Runs unit index function at rest (length function.code)
      → list_all (is_aimed unit index function places) front ≡ true
      → list_all (is_aimed unit index function places) rest ≡ false → HasFault
  aims places front [] at whole before after aimed misses = absurd (cc misses)
  aims places front (place ∷ rest) at whole before after aimed misses =
      let here : Runs unit index function 0 front place =
      subst (Runs unit index function 0 front) (sym after.0) before in
      let within : place < length function.code =
      subst (λ (n : ℕ). n < length function.code) (sym after.0) after.1 in
      let is : step_at unit index function place ≡ Ok after.2.0 =
      ap (step_at unit index function) after.0 ∙ after.2.1.0 in
      elim (cases_Bool (is_aimed unit index function places place)) [
        | inl hits ↦
            aims places (front ++ place ∷ []) rest after.2.0.next whole
            (runs_push unit index function 0 front place after.2.0 here within is) after.2.1.1
            (all_push (is_aimed unit index function places) front place aimed hits)
            (sym (ap (λ (b : Bool). b && list_all (is_aimed unit index function places) rest) hits)
            ∙ misses)
        | inr none ↦ (_, target places front place whole here within aimed none refl)
      ]

  -- ---- both

  -- whether it is split is right
  abbrev pub Split : Bool → Type 0
  Split true = IsSplit unit index function
  Split false = HasFault

  splits : (walk : Option (List ℕ)) → Walked 0 walk → (b : Bool)
      → are_aimed unit index function walk ≡ b → Split b
  splits None walked true is = absurd (cc is)
  splits None walked false is = walked
  splits (Some places) walked true is = record { places = places; runs = walked; aimed = is }
  splits (Some places) walked false is = aims places [] places 0 walked refl walked refl is

  pub split_or_fault : (b : Bool) → is_split unit index function ≡ b → Split b
  split_or_fault b is =
      splits (places_from (1 + length function.code) unit index function 0)
      (walks (1 + length function.code) 0 [] refl (omega arith) (omega arith)) b is
