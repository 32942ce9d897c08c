-- What calls come to, and what the steps into them leave to do.
use Rattle.std.proofs.Common.{◌≡◌, ℕ, ◌-◌, ◌<◌, ◌≤◌, List, [], ◌∷◌, length, Option, Some, None}
use Rattle.std.proofs.Common.{refl, sym, ap, subst, ◌∙◌, inl, inr, arith}
use Rattle.std.proofs.lemmas.Bool.Decides.{leb_tells}
use Rattle.wap_base.specs.declared.limits.Limits.{Limits}
use Rattle.wap_base.specs.declared.limits.TheConstants.{MOST_DEPTH}
use Rattle.wap_value.specs.declared.value.Value.{Value}
use Rattle.wap_url.specs.declared.url.Url.{Url}
use Rattle.wap_unit.specs.declared.unit.Unit.{Unit as CodeUnit}
use Rattle.wap_execution.specs.declared.found.Found.{Found}
use Rattle.wap_execution.specs.declared.found.Found.TheVariants.{Callee, Not}
use Rattle.wap_execution.specs.declared.library.HostOut.{HostOut}
use Rattle.wap_execution.specs.declared.library.HostOut.TheVariants as out
use Rattle.wap_execution.specs.Frames.{Function, Frame}
use Rattle.wap_execution.specs.Effects.{local, library, external}
use Rattle.wap_execution.specs.Outcomes.{Setting}
use Rattle.wap_execution.specs.Running.{returned, library_gave, entered, resumed, finished}
use Rattle.wap_machine.specs.declared.machine.Step.{Step}
use Rattle.wap_machine.specs.Hosts.{Gives, AtMost, Grows, Fetches, IsCallable}
use Rattle.wap_machine.specs.inside.MachineSteps.{rest, calls_from, CanCallFrom, goes_with}
use Rattle.wap_machine.specs.inside.MachineSteps.{GoesInto, GoesLocally, GoesFound, IsInOrderFor}
use Rattle.wap_machine.specs.inside.Advances.{gives}
use Rattle.wap_machine.specs.inside.Efforts.{IsLight}
use Rattle.wap_execution.proofs.LawsLemmas.RunLaws.{Keeps, Follows, enter_follows}
use Rattle.wap_execution.proofs.LawsLemmas.RunLaws.{returned_follows, resumed_follows}
use Rattle.wap_execution.proofs.LawsLemmas.FrameLaws.{inner, enters}

module _ {S : Type 0} (set : Setting S) where
  -- a value that is given, after a function or to frames that wait
  pub gives_same : (limits : Limits) (frames : List Frame) (v : Value) (turns : ℕ) (state : S)
      → resumed set frames v turns state ≡ rest set (gives limits frames v) turns state
  unfolding resumed finished
  gives_same limits [] v turns state = refl
  gives_same limits (frame ∷ outer) v turns state = refl

  pub out_same : (limits : Limits) (frame : Frame) (outer : List Frame) (gave : HostOut)
      (turns : ℕ) (state : S)
      → returned (frame ∷ outer) (resumed set (frame ∷ outer)) (library_gave gave turns state)
      ≡ rest set (goes_with limits (frame ∷ outer) gave) turns state
  unfolding resumed finished
  out_same limits frame outer (out.Value v) turns state = refl
  out_same limits frame outer (out.Exit v) turns state = refl
  out_same limits frame outer (out.Fatal why) turns state = refl
  out_same limits frame outer (out.Asks dialog) turns state = refl

  into_same : (limits : Limits) (function : Function) (arguments : List Value) (frames : List Frame)
      (step : Step) (turns : ℕ) (state : S) → length frames < MOST_DEPTH
      → GoesInto limits function arguments frames step
      → returned frames (resumed set frames)
      (inner set (length frames) function arguments turns state)
      ≡ rest set step turns state
  into_same limits function arguments frames step turns state few goes =
      enters set frames function goes.code arguments turns state few goes.found goes.many
      ∙ ap (λ (s : Step). rest set s turns state) (sym goes.is)

  pub local_same : (frame : Frame) (outer : List Frame) (index : ℕ) (arguments : List Value)
      (step : Step) (turns : ℕ) (state : S)
      → GoesLocally set.limits (frame ∷ outer) index arguments step
      → calls_from set (frame ∷ outer) (local index) arguments turns state
      ≡ rest set step turns state
  local_same frame outer index arguments step turns state goes =
      elim (leb_tells set.limits.depth (length (frame ∷ outer))) [
        | inl deep ↦
            rw (deep.0) (ap (λ (s : Step). rest set s turns state) (sym (goes.deep deep.1)))
        | inr free ↦
            let few : length (frame ∷ outer) < MOST_DEPTH =
            let less = free.1 in let fits = goes.depth_fits in omega arith in
            rw (free.0) (into_same set.limits (record frame.function { index = index }) arguments
            (frame ∷ outer) step turns state few (goes.enters frame outer refl free.1))
      ]

  pub found_same : (limits : Limits) (frame : Frame) (outer : List Frame) (caller : Url)
      (found : Found CodeUnit) (arguments : List Value) (step : Step) (count turns : ℕ) (state : S)
      → IsCallable count (length (frame ∷ outer)) found
      → GoesFound limits (frame ∷ outer) caller found arguments step
      → returned (frame ∷ outer) (resumed set (frame ∷ outer))
      (entered (inner set (length (frame ∷ outer))) caller arguments found turns state)
      ≡ rest set step turns state
  found_same limits frame outer caller (Callee unit base index) arguments step count turns
      state callable goes =
      into_same limits (record { unit = unit; base = base; referer = Some caller; index = index })
      arguments (frame ∷ outer) step turns state callable.few goes
  found_same limits frame outer caller (Not why) arguments step count turns state callable goes =
      ap (λ (s : Step). rest set s turns state) (sym goes)

-- ---- steps into calls are in order

into_order : (limits : Limits) (function : Function) (arguments : List Value) (frames : List Frame)
    (step : Step) → GoesInto limits function arguments frames step → IsLight step
    → IsInOrderFor limits step
into_order limits function arguments frames step goes light =
    subst (λ (s : Step). IsLight s → IsInOrderFor limits s) (sym goes.is)
    (λ is_light. record { limits_stay = refl; turns_are = tt; light = is_light }) light

pub local_order : (limits : Limits) (frame : Frame) (outer : List Frame) (index : ℕ)
    (arguments : List Value) (step : Step) → GoesLocally limits (frame ∷ outer) index arguments step
    → IsLight step → IsInOrderFor limits step
local_order limits frame outer index arguments step goes light =
    elim (leb_tells limits.depth (length (frame ∷ outer))) [
      | inl deep ↦
          subst (λ (s : Step). IsInOrderFor limits s) (sym (goes.deep deep.1))
          (record { limits_stay = tt; turns_are = λ e. cc e; light = tt })
      | inr free ↦
          into_order limits (record frame.function { index = index }) arguments (frame ∷ outer) step
          (goes.enters frame outer refl free.1) light
    ]

pub found_order : (limits : Limits) (frames : List Frame) (caller : Url) (found : Found CodeUnit)
    (arguments : List Value) (step : Step) (count depth : ℕ) → IsCallable count depth found
    → GoesFound limits frames caller found arguments step
    → IsLight step → IsInOrderFor limits step
found_order limits frames caller (Callee unit base index) arguments step count depth
    callable goes light =
    into_order limits (record { unit = unit; base = base; referer = Some caller; index = index })
    arguments frames step goes light
found_order limits frames caller (Not why) arguments step count depth callable goes light =
    subst (λ (s : Step). IsInOrderFor limits s) (sym goes)
    (record { limits_stay = tt; turns_are = callable; light = tt })

-- ---- with what hosts tell

module _ {S : Type 0} (set : Setting S) (frame : Frame) (outer : List Frame)
    (arguments : List Value) (turns : ℕ) (old new : S) where
  pub library_told : (number index : ℕ) (gave : HostOut) (step : Step)
      → Gives (set.host.library old frame.function.base frame.function.referer number index
      arguments) gave new
      → step ≡ goes_with set.limits (frame ∷ outer) gave
      → calls_from set (frame ∷ outer) (library number index) arguments turns old
      ≡ rest set step turns new
  library_told number index gave step told goes =
      let means =
      set.host.library old frame.function.base frame.function.referer number index arguments in
      out_same set set.limits frame outer means.0 turns means.1
      ∙ ap (λ (o : HostOut). rest set (goes_with set.limits (frame ∷ outer) o) turns means.1)
      (sym told.answers)
      ∙ ap (λ (s : Step). rest set s turns means.1) (sym goes)
      ∙ ap (λ (s : S). rest set step turns s) (sym told.stays)

  pub external_told : (url name : List ℕ) (found : Found CodeUnit) (step : Step)
      → Gives (set.host.external old frame.function.base url name (length arguments)
      (length (frame ∷ outer))) found new
      → IsCallable (length arguments) (length (frame ∷ outer)) found
      → GoesFound set.limits (frame ∷ outer) frame.function.base found arguments step
      → calls_from set (frame ∷ outer) (external url name) arguments turns old
      ≡ rest set step turns new
  external_told url name found step told callable goes =
      let means =
      set.host.external old frame.function.base url name (length arguments)
      (length (frame ∷ outer)) in
      ap (λ (f : Found CodeUnit). returned (frame ∷ outer) (resumed set (frame ∷ outer))
      (entered (inner set (length (frame ∷ outer))) frame.function.base arguments f turns means.1))
      (sym told.answers)
      ∙ found_same set set.limits frame outer frame.function.base found arguments step
      (length arguments) turns means.1 callable goes
      ∙ ap (λ (s : S). rest set step turns s) (sym told.stays)

pub local_from : {S : Type 0} (set : Setting S) (frames : List Frame) (arguments : List Value)
    (turns : ℕ) (index : ℕ) (step : Step) (state : S) → CanCallFrom frames (local index) arguments
    → GoesLocally set.limits frames index arguments step
    → calls_from set frames (local index) arguments turns state ≡ rest set step turns state
local_from set [] arguments turns index step state can goes = absurd can
local_from set (frame ∷ outer) arguments turns index step state can goes =
    local_same set frame outer index arguments step turns state goes

pub local_ordered : (limits : Limits) (frames : List Frame) (arguments : List Value) (index : ℕ)
    (step : Step) → CanCallFrom frames (local index) arguments
    → GoesLocally limits frames index arguments step → IsLight step → IsInOrderFor limits step
local_ordered limits [] arguments index step can goes light = absurd can
local_ordered limits (frame ∷ outer) arguments index step can goes light =
    local_order limits frame outer index arguments step goes light

-- ---- what is fetched

at_most_grows : (count : ℕ) (some more : Option ℕ) → AtMost count some → Grows some more
    → AtMost count more
at_most_grows count None more at_most grows = absurd at_most
at_most_grows count (Some n) None at_most grows = absurd grows
at_most_grows count (Some n) (Some m) at_most grows =
    let less : count ≤ n = at_most in
    let still : n ≤ m = grows in
    omega arith

pub grows_same : (some : Option ℕ) → Grows some some
grows_same None = tt
grows_same (Some n) = omega arith

pub grows_chained : (one two three : Option ℕ) → Grows one two → Grows two three → Grows one three
grows_chained None two three some more = tt
grows_chained (Some n) two three some more = at_most_grows n two three some more

fetches_grow : (before after later : Option ℕ) (count : ℕ) → Fetches before count after
    → Grows after later → Fetches before count later
fetches_grow None after later count fetches grows = tt
fetches_grow (Some n) after later count fetches grows =
    (fetches.0, at_most_grows count after later fetches.1 grows)

module _ {S : Type 0} (set : Setting S) (fetched : S → Option ℕ) where
  abbrev pub Grown : S → S → Type 0
  Grown before after = Grows (fetched before) (fetched after)

  module _ (keeps : Keeps set Grown) (frame : Frame) (outer : List Frame) (arguments : List Value)
      (turns : ℕ) (count : ℕ) (old : S) where
    -- a call that failed fetched no more than the frames would have left
    pub library_fetches : (number index : ℕ)
        → Fetches (fetched old) count (fetched (set.host.library old frame.function.base
        frame.function.referer number index arguments).1)
        → Fetches (fetched old) count (fetched
        (calls_from set (frame ∷ outer) (library number index) arguments turns old).state)
    library_fetches number index fetches =
        let means =
        set.host.library old frame.function.base frame.function.referer number index arguments in
        let end = library_gave means.0 turns means.1 in
        let gave = library_gives means.0 means.1 in
        let later =
        returned_follows set Grown keeps (frame ∷ outer) (resumed set (frame ∷ outer))
        (resumed_follows set Grown keeps (frame ∷ outer))
        turns means.1 end.outcome end.turns end.state gave.turns_fall gave.kin in
        fetches_grow (fetched old) (fetched means.1) (fetched (calls_from set (frame ∷ outer)
        (library number index) arguments turns old).state) count fetches later.kin
      where
        library_gives : (gave : HostOut) (state : S)
            → Follows Grown turns state (library_gave gave turns state)
        library_gives (out.Value v) state =
            record { turns_fall = omega arith; kin = grows_same (fetched state) }
        library_gives (out.Exit v) state =
            record { turns_fall = omega arith; kin = grows_same (fetched state) }
        library_gives (out.Fatal why) state =
            record { turns_fall = omega arith; kin = grows_same (fetched state) }
        library_gives (out.Asks dialog) state =
            record { turns_fall = omega arith; kin = grows_same (fetched state) }

    pub external_fetches : (url name : List ℕ)
        → Fetches (fetched old) count (fetched (set.host.external old frame.function.base url
        name (length arguments) (length (frame ∷ outer))).1)
        → Fetches (fetched old) count
        (fetched (calls_from set (frame ∷ outer) (external url name) arguments turns old).state)
    external_fetches url name fetches =
        let means =
        set.host.external old frame.function.base url name (length arguments)
        (length (frame ∷ outer)) in
        let end =
        entered (inner set (length (frame ∷ outer)))
        frame.function.base arguments means.0 turns means.1 in
        let gave = entered_gives means.0 means.1 in
        let later =
        returned_follows set Grown keeps (frame ∷ outer) (resumed set (frame ∷ outer))
        (resumed_follows set Grown keeps (frame ∷ outer))
        turns means.1 end.outcome end.turns end.state gave.turns_fall gave.kin in
        fetches_grow (fetched old) (fetched means.1)
        (fetched (calls_from set (frame ∷ outer) (external url name) arguments turns old).state)
        count fetches later.kin
      where
        entered_gives : (found : Found CodeUnit) (state : S) → Follows Grown turns state (entered
            (inner set (length (frame ∷ outer))) frame.function.base arguments found turns state)
        entered_gives (Callee unit base index) state =
            enter_follows set Grown keeps (MOST_DEPTH - length (frame ∷ outer)) (record {
              unit = unit;
              base = base;
              referer = Some frame.function.base;
              index = index;
            }) arguments turns state
        entered_gives (Not why) state =
            record { turns_fall = omega arith; kin = grows_same (fetched state) }
