-- What the verifier keeps while it works on a function.
use Rattle.std.specs.Prelude.{⊤, ◌≡◌, ℕ, ◌+◌, ◌-◌, ◌<◌, ◌≤◌, ◌==◌, ◌||◌, ◌&&◌, ◌⊎◌, not, Bool, true}
use Rattle.std.specs.Prelude.{false, List, [], ◌∷◌, length, slice_index_or, Option, Some, None}
use Rattle.std.specs.Prelude.{IfSome, Ok}
use Rattle.std.specs.List.{list_any, list_all}
use Rattle.wap_unit.specs.declared.unit.Unit.{Unit}
use Rattle.wap_unit.specs.declared.unit.Code.{Code}
use Rattle.wap_verify.specs.declared.step.Step.{Step}
use Rattle.wap_verify.specs.declared.step.Way.{Way}
use Rattle.wap_verify.specs.CodePlaces.{way_on, step_at}
use Rattle.wap_verify.specs.Paths.{Stand, HasWay, Reaches}
use Rattle.wap_verify.specs.Sound.{Runs, is_aimed}
use Rattle.wap_verify.specs.Depths.{State, depth_of, unseen}

-- a step leads on, within the code, and gives one value at most
pub record GoesOn (at end : ℕ) (step : Step) : Type 0 where
  pub onward : at < step.next
  pub within : step.next ≤ end
  pub on : IfSome (way_on step) (λ way. way.gives ≤ 1)
  pub jump : IfSome step.jump (λ way. way.gives ≤ 1)

-- ---- the first pass: a mark for each byte

abbrev pub is_place : List ℕ → ℕ → Bool
is_place places at = list_any (λ place. place == at) places

-- up to this place the marks say where instructions begin
pub record Marks (unit : Unit) (index : ℕ) (function : Code) (at : ℕ)
    (marks : List Bool) : Type 0 where
  pub places : List ℕ
  pub runs : Runs unit index function 0 places at
  pub within : at ≤ length function.code
  pub long : length marks ≡ length function.code
  pub marked : (i : ℕ) → slice_index_or marks i false ≡ is_place places i

-- ---- the second pass

abbrev pub leads_to_mark : List Bool → ℕ → Option Way → Bool
leads_to_mark marks end None = true
leads_to_mark marks end (Some way) = way.to == end || slice_index_or marks way.to false

abbrev pub is_marked_step : List Bool → ℕ → Step → Bool
is_marked_step marks end step = not step.strays && leads_to_mark marks end step.jump

-- up to this place each jump has a target among the places
pub record Aimed (unit : Unit) (index : ℕ) (function : Code) (places : List ℕ)
    (at : ℕ) : Type 0 where
  pub front : List ℕ
  pub runs : Runs unit index function 0 front at
  pub aimed : list_all (is_aimed unit index function places) front ≡ true
  pub within : at ≤ length function.code

-- ---- the third pass: one number of values for each place, and the places whose ways aren't
-- followed yet

-- the number that is kept there is no other
abbrev pub Agrees : State → ℕ → ℕ → Type 0
Agrees state to values = (other : ℕ) → depth_of state to ≡ Some (Some other) → other ≡ values

abbrev pub AgreesWith : State → ℕ → Option Way → Type 0
AgreesWith state left None = ⊤
AgreesWith state left (Some way) = Agrees state way.to (left + way.gives)

abbrev pub Among : {A : Type 0} → A → List A → Type 0
Among x [] = ⊥
Among x (y ∷ ys) = (x ≡ y) ⊎ Among x ys

pub record Sane (unit : Unit) (index : ℕ) (function : Code) (state : State) : Type 0 where
  pub long : length state.depths ≡ length function.code
  pub reached : (at values : ℕ) → depth_of state at ≡ Some (Some values)
      → Reaches unit index function at values
  pub waiting : (stand : Stand) → Among stand state.pending
      → depth_of state stand.0 ≡ Some (Some stand.1)
  pub bounded : (at values : ℕ) → depth_of state at ≡ Some (Some values)
      → values + 1 + unseen state.depths ≤ length function.code
  pub room_at : ℕ
  pub room_reached : Reaches unit index function room_at state.room

-- a way was followed to there
pub record Arrived (state : State) (to values : ℕ) : Type 0 where
  pub covered : values ≤ state.room
  pub kept : to < length state.depths → depth_of state to ≡ Some (Some values)

-- all ways from there were followed
pub record Settled (unit : Unit) (index : ℕ) (function : Code) (state : State)
    (at values : ℕ) : Type 0 where
  pub step : Step
  pub stands : step_at unit index function at ≡ Ok step
  pub enough : step.takes ≤ values
  pub each : (way : Way) → HasWay step way → Arrived state way.to (values - step.takes + way.gives)

-- what was known stays known, and what is new is pending
pub record Grows (old new : State) : Type 0 where
  pub long : length new.depths ≡ length old.depths
  pub kept : (at values : ℕ) → depth_of old at ≡ Some (Some values)
      → depth_of new at ≡ Some (Some values)
  pub waits : (stand : Stand) → Among stand old.pending → Among stand new.pending
  pub fresh : (at values : ℕ) → depth_of new at ≡ Some (Some values)
      → (depth_of old at ≡ Some (Some values)) ⊎ Among (at, values) new.pending
  pub room : old.room ≤ new.room
  pub fewer : unseen new.depths ≤ unseen old.depths
  pub less : unseen new.depths + unseen new.depths + length new.pending
      ≤ unseen old.depths + unseen old.depths + length old.pending

-- every place that has a number is pending or settled
pub record Works (unit : Unit) (index : ℕ) (function : Code) (state : State) : Type 0 where
  pub sane : Sane unit index function state
  pub start : 0 < length function.code → depth_of state 0 ≡ Some (Some 0)
  pub each : (at values : ℕ) → depth_of state at ≡ Some (Some values)
      → Among (at, values) state.pending ⊎ Settled unit index function state at values

-- the place was pending, and its ways aren't followed yet
pub record Visits (unit : Unit) (index : ℕ) (function : Code) (old new : State)
    (at values : ℕ) : Type 0 where
  pub sane : Sane unit index function new
  pub grows : Grows old new
  pub settled : Settled unit index function new at values
