-- Two faults of a unit are the same, or at both the numbers of values don't fit.
use Rattle.std.proofs.Common.{◌≡◌, ℕ, ◌<◌, Bool, true, false, List, [], ◌∷◌, length}
use Rattle.std.proofs.Common.{Err, sym, ap, subst, ◌∙◌, inl, inr, arith}
use Rattle.std.specs.Prelude.{slice_get}
use Rattle.std.specs.List.{list_all}
use Rattle.std.proofs.lemmas.Bool.{cases_lt, and_parts}
use Rattle.wap_base.proofs.Choices.{ok_same, err_same, some_same}
use Rattle.wap_unit.specs.declared.unit.Unit.{Unit}
use Rattle.wap_unit.specs.declared.unit.Code.{Code}
use Rattle.wap_verify.specs.declared.step.Step.{Step}
use Rattle.wap_verify.specs.declared.fault.VerifyFault.{VerifyFault}
use Rattle.wap_verify.specs.declared.fault.VerifyFault.TheVariants as fault
use Rattle.wap_verify.specs.CodePlaces.{step_at}
use Rattle.wap_verify.specs.Sound.{Runs, is_aimed, IsSplit, IsSound}
use Rattle.wap_verify.specs.Faults.{IsFunctionFault, item, target, underflow, depths}
use Rattle.wap_verify.specs.Faults.{IsFault, pragma, function}
use Rattle.wap_verify.proofs.Walks.{runs_same}
use Rattle.wap_verify.proofs.Working.{is_here, runs_has, stands_at}
use Rattle.wap_verify.specs.runnable.Runnable.{is_of_depths, AreAlike}

module _ (unit : Unit) (index : ℕ) (code : Code) where
  -- ---- split code

  -- among the instructions of the whole code none is faulty
  no_item : (all places : List ℕ) (at : ℕ) (found : VerifyFault)
      → Runs unit index code 0 all (length code.code) → Runs unit index code 0 places at
      → at < length code.code → step_at unit index code at ≡ Err found → ⊥
  no_item all places at found whole runs within is =
      let among = runs_has unit index code 0 places all at runs whole within in
      let stands = stands_at unit index code 0 all (length code.code) at whole among in
      cc (sym is ∙ stands.1)

  -- in split code the numbers of values alone don't fit
  of_depths : IsSplit unit index code → (found : VerifyFault)
      → IsFunctionFault unit index code found → is_of_depths found ≡ true
  of_depths split found (item places at runs within is) =
      absurd (no_item split.places places at found split.runs runs within is)
  of_depths split found (target places front at whole runs within aimed misses same) =
      let all = runs_same unit index code 0 split.places places split.runs whole in
      let among = runs_has unit index code 0 front split.places at runs split.runs within in
      let hits : is_aimed unit index code places at ≡ true =
      subst (λ (l : List ℕ). is_aimed unit index code l at ≡ true) all
      (is_here split.places at among (is_aimed unit index code split.places) split.aimed) in
      absurd (cc (sym hits ∙ misses))
  of_depths split found (underflow at values step whole within reached is few same) =
      ap is_of_depths same
  of_depths split found (depths at some other whole within first second apart same) =
      ap is_of_depths same

  -- a function that is sound has no fault
  unsound : (found : VerifyFault) → IsSound unit index code → IsFunctionFault unit index code found
      → ⊥
  unsound found sound (item places at runs within is) =
      no_item sound.split.places places at found sound.split.runs runs within is
  unsound found sound (target places front at whole runs within aimed misses same) =
      cc (sym (of_depths sound.split found
      (target places front at whole runs within aimed misses same)) ∙ ap is_of_depths same)
  unsound found sound (underflow at values step split within reached is few same) =
      let enough = sound.enough at values step within reached is in
      omega arith
  unsound found sound (depths at some other split within first second apart same) =
      apart (sound.one at some other within first second)

  -- ---- walks that stop

  -- there is one first faulty instruction
  item_same : (from : ℕ) (some other : List ℕ) (at at' : ℕ) (found found' : VerifyFault)
      → Runs unit index code from some at → Runs unit index code from other at'
      → step_at unit index code at ≡ Err found → step_at unit index code at' ≡ Err found'
      → found ≡ found'
  item_same from [] [] at at' found found' one two is is' =
      err_same found found' (sym is ∙ ap (step_at unit index code) (sym one ∙ two) ∙ is')
  item_same from [] (place ∷ other) at at' found found' one two is is' =
      absurd (cc (sym is ∙ ap (step_at unit index code) (sym one) ∙ two.2.1.0))
  item_same from (place ∷ some) [] at at' found found' one two is is' =
      absurd (cc (sym is' ∙ ap (step_at unit index code) (sym two) ∙ one.2.1.0))
  item_same from (place ∷ some) (place' ∷ other) at at' found found' one two is is' =
      let step_same : one.2.0 ≡ two.2.0 = ok_same one.2.0 two.2.0 (sym one.2.1.0 ∙ two.2.1.0) in
      let next_same : Runs unit index code two.2.0.next some at =
      subst (λ (s : Step). Runs unit index code s.next some at) step_same one.2.1.1 in
      item_same two.2.0.next some other at at' found found' next_same two.2.1.1 is is'

  -- there is one first instruction that fails a test
  first_same : (test : ℕ → Bool) (from : ℕ) (some other : List ℕ) (at at' : ℕ)
      → Runs unit index code from some at → Runs unit index code from other at'
      → list_all test some ≡ true → list_all test other ≡ true → test at ≡ false
      → test at' ≡ false → at ≡ at'
  first_same test from [] [] at at' one two all all' is is' = sym one ∙ two
  first_same test from [] (place ∷ other) at at' one two all all' is is' =
      let parts = and_parts (test place) (list_all test other) all' in
      absurd (cc (sym is ∙ ap test (sym one ∙ sym two.0) ∙ parts.0))
  first_same test from (place ∷ some) [] at at' one two all all' is is' =
      let parts = and_parts (test place) (list_all test some) all in
      absurd (cc (sym is' ∙ ap test (sym two ∙ sym one.0) ∙ parts.0))
  first_same test from (place ∷ some) (place' ∷ other) at at' one two all all' is is' =
      let parts = and_parts (test place) (list_all test some) all in
      let parts' = and_parts (test place') (list_all test other) all' in
      let step_same : one.2.0 ≡ two.2.0 = ok_same one.2.0 two.2.0 (sym one.2.1.0 ∙ two.2.1.0) in
      let next_same : Runs unit index code two.2.0.next some at =
      subst (λ (s : Step). Runs unit index code s.next some at) step_same one.2.1.1 in
      first_same test two.2.0.next some other at at' next_same two.2.1.1 parts.1 parts'.1 is is'

  -- ---- two faults of a function

  both_of_depths : IsSplit unit index code → (found other : VerifyFault)
      → IsFunctionFault unit index code found → IsFunctionFault unit index code other
      → AreAlike found other
  both_of_depths split found other one two =
      inr (of_depths split found one, of_depths split other two)

  alike_in : (found other : VerifyFault) → IsFunctionFault unit index code found
      → IsFunctionFault unit index code other → AreAlike found other
  alike_in found other (item p at runs within is) (item q at' runs' within' is') =
      inl (item_same 0 p q at at' found other runs runs' is is')
  alike_in found other (item p at runs within is)
      (target all front at' whole runs' within' aimed misses same) =
      absurd (no_item all p at found whole runs within is)
  alike_in found other (target all front at' whole runs' within' aimed misses same)
      (item p at runs within is) =
      absurd (no_item all p at other whole runs within is)
  alike_in found other (target all front at whole runs within aimed misses same)
      (target all' front' at' whole' runs' within' aimed' misses' same') =
      let one : all' ≡ all = runs_same unit index code 0 all' all whole' whole in
      let place : at ≡ at' =
      first_same (is_aimed unit index code all) 0 front front' at at' runs runs' aimed
      (subst (λ (l : List ℕ). list_all (is_aimed unit index code l) front' ≡ true) one aimed')
      misses (subst (λ (l : List ℕ). is_aimed unit index code l at' ≡ false) one misses') in
      inl (same ∙ ap (λ (n : ℕ). fault.Target index n) place ∙ sym same')
  alike_in found other one (underflow at values step split within reached is few same) =
      both_of_depths split found other one
      (underflow at values step split within reached is few same)
  alike_in found other one (depths at some more split within first second apart same) =
      both_of_depths split found other one (depths at some more split within first second apart
      same)
  alike_in found other (underflow at values step split within reached is few same) two =
      both_of_depths split found other
      (underflow at values step split within reached is few same) two
  alike_in found other (depths at some more split within first second apart same) two =
      both_of_depths split found other
      (depths at some more split within first second apart same) two

-- ---- two faults of a unit

pub alike : (unit : Unit) (found other : VerifyFault) → IsFault unit found → IsFault unit other
    → AreAlike found other
alike unit found other (pragma index is same) (pragma index' is' same') =
    inl (same ∙ ap (λ (n : ℕ). fault.Pragma n) (some_same index index' (sym is ∙ is')) ∙ sym same')
alike unit found other (pragma index is same) (function index' code none there before of) =
    absurd (cc (sym is ∙ none))
alike unit found other (function index code none there before of) (pragma index' is' same') =
    absurd (cc (sym is' ∙ none))
alike unit found other (function index code none there before of)
    (function index' code' none' there' before' of') =
    elim (cases_lt index index') [
      | inl less ↦ absurd (unsound unit index code found (before' index code less there) of)
      | inr more ↦ elim (cases_lt index' index) [
        | inl less ↦ absurd (unsound unit index' code' other (before index' code' less there') of')
        | inr same ↦
            let place : index' ≡ index = omega arith in
            alike_in unit index code found other of
            (subst (λ (n : ℕ). IsFunctionFault unit n code other) place
            (subst (λ (c : Code). IsFunctionFault unit index' c other)
            (some_same code' code (sym there' ∙ ap (slice_get unit.functions) place ∙ there)) of'))
      ]
    ]
