-- What a frame's run does not depend on: how many bytes or jumps may be left makes no difference
-- where there are enough.
use Rattle.std.proofs.Common.{◌≡◌, ℕ, zero, suc, ◌+◌, ◌-◌, ◌<◌, ◌≤◌, Bool, true, false, eqb, cond}
use Rattle.std.proofs.Common.{List, [], ◌∷◌, length, refl, sym, ap, ◌∙◌, inl, inr, arith}
use Rattle.std.proofs.lemmas.Bool.{eq-eqb}
use Rattle.std.proofs.lemmas.Bool.Decides.{eqb_tells, leb_tells}
use Rattle.wap_value.specs.declared.value.Value.{Value}
use Rattle.wap_value.specs.declared.value.Value.TheVariants.{Str}
use Rattle.wap_execution.specs.Frames.{Function, Frame, code_of}
use Rattle.wap_execution.specs.Effects.{Called, Effect, onward, back, calls, effect_at}
use Rattle.wap_execution.specs.Outcomes.{Outcome, value, stuck, Ended}
use Rattle.wap_execution.specs.Running.{ended, returned_by, Onward, Ways, at_place, followed_by}
use Rattle.wap_execution.specs.Running.{forward_by, looping_by, goes, Calls}

-- no call gives turns back
abbrev pub TurnsFall : {S : Type 0} → Calls S → Type 0
TurnsFall {S} call = (callee : Called) (arguments : List Value) (turns : ℕ) (state : S)
    → (call callee arguments turns state).turns ≤ turns

module _ {S : Type 0} (ways : Ways S) (function : Function) where
  -- how many bytes the code has
  abbrev pub size : ℕ
  size = length (code_of function)

  module _ (again : Onward S) where
    -- what stands at the place decides, and not what is before it
    pub forward_here : (left place : ℕ) (variables operands : List Value) (turns : ℕ) (state : S)
        → place < size → size ≤ place + left
        → forward_by ways function again left place variables operands turns state
        ≡ followed_by ways.call function (forward_by ways function again (size - place - 1)) again
        (effect_at ways.string (at_place function place variables operands)) turns
        (ways.tick state)
    unfolding forward_by
    forward_here zero place variables operands turns state within covers = absurd (omega arith)
    forward_here (suc left) place variables operands turns state within covers =
        elim (eqb_tells (place + suc left) size) [
          | inl here ↦
              let e : left ≡ size - place - 1 = let same = here.1 in omega arith in
              rw (here.0) (ap (λ (n : ℕ).
              followed_by ways.call function (forward_by ways function again n) again
              (effect_at ways.string (at_place function place variables operands)) turns
              (ways.tick state)) e)
          | inr before ↦
              rw (before.0) (forward_here left place variables operands turns state within
              (let apart = before.1 in omega arith))
        ]

    -- at the end the function gives ""
    pub forward_end : (left place : ℕ) (variables operands : List Value) (turns : ℕ) (state : S)
        → place ≡ size
        → forward_by ways function again left place variables operands turns state
        ≡ ended (value (Str [])) turns state
    unfolding forward_by
    forward_end zero place variables operands turns state at_end =
        rw (eq-eqb place size at_end) refl
    forward_end (suc left) place variables operands turns state at_end =
        elim (eqb_tells (place + suc left) size) [
          | inl here ↦ let same = here.1 in absurd (omega arith)
          | inr before ↦
              rw (before.0) (forward_end left place variables operands turns state at_end)
        ]

    -- any two numbers that are enough are as good
    pub forward_enough : (some other place : ℕ) (variables operands : List Value) (turns : ℕ)
        (state : S) → place ≤ size → size ≤ place + some → size ≤ place + other
        → forward_by ways function again some place variables operands turns state
        ≡ forward_by ways function again other place variables operands turns state
    forward_enough some other place variables operands turns state within one two =
        elim (eqb_tells place size) [
          | inl here ↦
              forward_end some place variables operands turns state here.1
              ∙ sym (forward_end other place variables operands turns state here.1)
          | inr before ↦
              let inside : place < size = let apart = before.1 in omega arith in
              forward_here some place variables operands turns state inside one
              ∙ sym (forward_here other place variables operands turns state inside two)
        ]

    -- past the end nothing is done
    pub forward_past : (left place : ℕ) (variables operands : List Value) (turns : ℕ) (state : S)
        → size < place
        → forward_by ways function again left place variables operands turns state
        ≡ ended stuck turns state
    unfolding forward_by
    forward_past zero place variables operands turns state past =
        elim (eqb_tells place size) [
          | inl here ↦ let same = here.1 in absurd (omega arith)
          | inr apart ↦ rw (apart.0) refl
        ]
    forward_past (suc left) place variables operands turns state past =
        elim (eqb_tells (place + suc left) size) [
          | inl here ↦ let same = here.1 in absurd (omega arith)
          | inr apart ↦
              rw (apart.0) (forward_past left place variables operands turns state past)
        ]

    -- any two numbers that are enough are as good, behind the end of the code too
    pub forward_any : (some other place : ℕ) (variables operands : List Value) (turns : ℕ)
        (state : S) → size ≤ place + some → size ≤ place + other
        → forward_by ways function again some place variables operands turns state
        ≡ forward_by ways function again other place variables operands turns state
    forward_any some other place variables operands turns state one two =
        elim (leb_tells place size) [
          | inl within ↦
              forward_enough some other place variables operands turns state within.1 one two
          | inr past ↦
              forward_past some place variables operands turns state
              (let far = past.1 in omega arith)
              ∙ sym (forward_past other place variables operands turns state
              (let far = past.1 in omega arith))
        ]

  -- both do the same with fewer than so many turns
  abbrev Alike : ℕ → Onward S → Onward S → Type 0
  Alike turns some other =
      (place : ℕ) (variables operands : List Value) (left : ℕ) (state : S) → left < turns
      → some place variables operands left state ≡ other place variables operands left state

  -- what goes on the same with fewer turns does so after a call
  returned_same : (frames : List Frame) (some other : Value → ℕ → S → Ended S) (turns : ℕ)
      → ((v : Value) (left : ℕ) (state : S) → left < turns → some v left state ≡ other v left state)
      → (outcome : Outcome) (left : ℕ) (state : S) → left < turns
      → returned_by frames some outcome left state ≡ returned_by frames other outcome left state
  returned_same frames some other turns alike (value v) left state fewer = alike v left state fewer
  returned_same frames some other turns alike _ left state fewer = refl

  module _ (falls : TurnsFall ways.call) where
    -- effects come to the same where what goes on does
    followed_same : (turns : ℕ) (on on' again again' : Onward S) → Alike (suc turns) on on'
        → Alike turns again again' → (effect : Effect) (state : S)
        → followed_by ways.call function on again effect turns state
        ≡ followed_by ways.call function on' again' effect turns state
    followed_same turns on on' again again' ons agains (onward place variables operands) state =
        ons place variables operands turns state (omega arith)
    followed_same zero on on' again again' ons agains (back place variables operands) state = refl
    followed_same (suc left) on on' again again' ons agains (back place variables operands) state =
        agains place variables operands left state (omega arith)
    followed_same zero on on' again again' ons agains
        (calls callee arguments place variables operands) state = refl
    followed_same (suc left) on on' again again' ons agains
        (calls callee arguments place variables operands) state =
        let call = ways.call callee arguments left state in
        let fewer = falls callee arguments left state in
        returned_same (at_place function place variables operands ∷ [])
        (λ v. on place variables (v ∷ operands)) (λ v. on' place variables (v ∷ operands))
        (suc (suc left))
        (λ v fewer later less. ons place variables (v ∷ operands) fewer later less)
        call.outcome call.turns call.state (omega arith)
    followed_same turns on on' again again' ons agains _ state = refl

    -- so does a frame by what it does where it goes back
    forward_same : (turns : ℕ) (again again' : Onward S) → Alike turns again again' → (left : ℕ)
        → Alike (suc turns) (forward_by ways function again left)
        (forward_by ways function again' left)
    unfolding forward_by
    forward_same turns again again' agains zero place variables operands few state less = refl
    forward_same turns again again' agains (suc left) place variables operands few state less =
        let effect = effect_at ways.string (at_place function place variables operands) in
        elim (eqb (place + suc left) size) as (λ (b : Bool). cond b
        (followed_by ways.call function (forward_by ways function again left) again effect few
        (ways.tick state))
        (forward_by ways function again left place variables operands few state)
        ≡ cond b
        (followed_by ways.call function (forward_by ways function again' left) again' effect few
        (ways.tick state))
        (forward_by ways function again' left place variables operands few state)) [
          | true ↦
              followed_same few (forward_by ways function again left)
              (forward_by ways function again' left) again again'
              (λ p v o t s fewer.
              forward_same turns again again' agains left p v o t s (omega arith))
              (λ p v o t s fewer. agains p v o t s (omega arith)) effect (ways.tick state)
          | false ↦
              forward_same turns again again' agains left place variables operands few state less
        ]

    -- more jumps than turns change nothing
    pub looping_same : (some other place : ℕ) (variables operands : List Value) (turns : ℕ)
        (state : S) → turns < some → turns < other
        → looping_by ways function some place variables operands turns state
        ≡ looping_by ways function other place variables operands turns state
    unfolding looping_by
    looping_same zero other place variables operands turns state one two = absurd (omega arith)
    looping_same (suc some) zero place variables operands turns state one two =
        absurd (omega arith)
    looping_same (suc some) (suc other) place variables operands turns state one two =
        forward_same turns (looping_by ways function some) (looping_by ways function other)
        (λ p v o t s fewer. looping_same some other p v o t s (omega arith) (omega arith))
        size place variables operands turns state (omega arith)

    -- a frame of the function goes on at a place
    abbrev pub going : Onward S
    going place variables operands turns state =
        goes ways (at_place function place variables operands) turns state

    -- ---- one instruction

    -- at the end the function gives ""
    pub goes_end : (place : ℕ) (variables operands : List Value) (turns : ℕ) (state : S)
        → place ≡ size
        → going place variables operands turns state ≡ ended (value (Str [])) turns state
    unfolding goes looping_by
    goes_end place variables operands turns state at_end =
        forward_end (looping_by ways function turns) size place variables operands turns state
        at_end

    module _ (place : ℕ) (variables operands : List Value) (turns : ℕ) (state : S)
        (within : place < size) where
      -- what stands there decides
      pub here : going place variables operands turns state
          ≡ followed_by ways.call function
          (forward_by ways function (looping_by ways function turns) (size - place - 1))
          (looping_by ways function turns)
          (effect_at ways.string (at_place function place variables operands)) turns
          (ways.tick state)
      unfolding goes looping_by
      here =
          forward_here (looping_by ways function turns) size place variables operands turns state
          within (omega arith)

      -- further on, it goes on there
      pub on_there : (later left : ℕ) (variables operands : List Value) (state : S) → left ≤ turns
          → place < later
          → forward_by ways function (looping_by ways function turns) (size - place - 1)
          later variables operands left state
          ≡ going later variables operands left state
      unfolding goes looping_by
      on_there later left variables operands state fewer onwards =
          forward_any (looping_by ways function turns) (size - place - 1) size later
          variables operands left state (omega arith) (omega arith)
          ∙ looping_same (suc turns) (suc left) later variables operands left state
          (omega arith) (omega arith)

      -- back there, it goes on
      pub again_there : (earlier left : ℕ) (variables operands : List Value) (state : S)
          → left < turns
          → looping_by ways function turns earlier variables operands left state
          ≡ going earlier variables operands left state
      unfolding goes
      again_there earlier left variables operands state fewer =
          looping_same turns (suc left) earlier variables operands left state
          (omega arith) (omega arith)
