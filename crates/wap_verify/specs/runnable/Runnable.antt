-- Whether a unit may be run, as a test that goes as the verifier goes: a walk over the instructions
-- of each function, the targets of its jumps, and one number of values for each place. A law says
-- that exactly the verified units pass it. This project's own.
use Rattle.std.specs.Prelude.{◌≡◌, ◌⊎◌, ℕ, zero, suc, ◌+◌, ◌-◌, ◌==◌, nat_lt, nat_le, Bool, true}
use Rattle.std.specs.Prelude.{false, ◌&&◌}
use Rattle.std.specs.Prelude.{if◌then◌else◌, List, [], ◌∷◌, length, replicate, slice_set}
use Rattle.std.specs.Prelude.{Option, Some, None, is_none, option_map, Result, Ok, Err}
use Rattle.std.specs.List.{list_all}
use Rattle.wap_unit.specs.declared.unit.Unit.{Unit}
use Rattle.wap_unit.specs.declared.unit.Code.{Code}
use Rattle.wap_verify.specs.declared.step.Step.{Step}
use Rattle.wap_verify.specs.declared.step.Way.{Way}
use Rattle.wap_verify.specs.declared.fault.VerifyFault.{VerifyFault}
use Rattle.wap_verify.specs.declared.fault.VerifyFault.TheVariants as fault
use Rattle.wap_verify.specs.CodePlaces.{way_on, step_at}
use Rattle.wap_verify.specs.Paths.{Stand}
use Rattle.wap_verify.specs.Sound.{is_aimed, stray_pragma}
use Rattle.wap_verify.specs.Depths.{State, depth_of, followed, effort}

-- ---- whole instructions, and the targets of jumps

-- the places after what stands at a place, by those after a place
abbrev pub places_after : (ℕ → Option (List ℕ)) → Result Step VerifyFault → Option (List ℕ)
places_after places (Ok step) = places step.next
places_after places (Err fault) = None

-- the places of instructions from a place to the end of the code, if there are no more than so
-- many and nothing else stands among them
unfoldable pub places_from : ℕ → Unit → ℕ → Code → ℕ → Option (List ℕ)
places_from zero unit index function at = None
places_from (suc more) unit index function at =
    if nat_lt at (length function.code)
    then option_map (λ places. at ∷ places)
    (places_after (places_from more unit index function) (step_at unit index function at))
    else Some []

-- the code is instructions at these places, and each jump has a target
abbrev pub are_aimed : Unit → ℕ → Code → Option (List ℕ) → Bool
are_aimed unit index function None = false
are_aimed unit index function (Some places) = list_all (is_aimed unit index function places) places

-- the code is whole instructions, and each jump has a target
abbrev pub is_split : Unit → ℕ → Code → Bool
is_split unit index function =
    are_aimed unit index function (places_from (1 + length function.code) unit index function 0)

-- ---- one number of values for each place

-- the number that is kept is no other
abbrev pub is_same_depth : ℕ → Option (Option ℕ) → Bool
is_same_depth values None = true
is_same_depth values (Some None) = true
is_same_depth values (Some (Some other)) = other == values

-- where a way ends, no other number is kept
abbrev pub agrees : State → ℕ → Option Way → Bool
agrees state left None = true
agrees state left (Some way) = is_same_depth (left + way.gives) (depth_of state way.to)

-- there are enough values, and where the ways end no other number is kept
abbrev pub may_follow : State → ℕ → Step → Bool
may_follow state values step =
    nat_le step.takes values && (agrees state (values - step.takes) (way_on step)
    && agrees (followed state (values - step.takes) (way_on step)) (values - step.takes) step.jump)

-- after both ways were followed
abbrev pub both_followed : State → ℕ → Step → State
both_followed state values step =
    followed (followed state (values - step.takes) (way_on step)) (values - step.takes) step.jump

-- the ways from what stands at a place may be followed, and all works out after that
abbrev pub visits : (State → Bool) → State → ℕ → Result Step VerifyFault → Bool
visits works_out state values (Ok step) =
    may_follow state values step && works_out (both_followed state values step)
visits works_out state values (Err fault) = false

-- a list's last, and those before it
abbrev pub beside : {A : Type 0} → A → Option (List A × A) → List A × A
beside x None = ([], x)
beside x (Some parts) = (x ∷ parts.0, parts.1)

abbrev pub last_of : {A : Type 0} → List A → Option (List A × A)
last_of [] = None
last_of (x ∷ xs) = Some (beside x (last_of xs))

-- a place is taken off
abbrev pub without_last : State → List Stand → State
without_last state pending =
    record { depths = state.depths; pending = pending; room = state.room }

-- the last place that waits is visited, if one waits
abbrev pub visits_last : (State → Bool) → Unit → ℕ → Code → State → Option (List Stand × Stand)
    → Bool
visits_last works_out unit index function state None = true
visits_last works_out unit index function state (Some parts) =
    visits works_out (without_last state parts.0) parts.1.1
    (step_at unit index function parts.1.0)

-- each place that waits is visited, and those that wait after that, so many at most
unfoldable pub works_out : ℕ → Unit → ℕ → Code → State → Bool
works_out zero unit index function state = false
works_out (suc more) unit index function state =
    visits_last (works_out more unit index function) unit index function state
    (last_of state.pending)

-- the beginning alone is known, and waits
abbrev pub begun : ℕ → State
begun count =
    record { depths = slice_set (replicate count None) 0 (Some 0); pending = (0, 0) ∷ []; room = 0 }

-- every place is reached with one number of values, and with enough
abbrev pub has_depths : Unit → ℕ → Code → Bool
has_depths unit index function =
    if nat_lt 0 (length function.code)
    then works_out (1 + effort (begun (length function.code))) unit index function
    (begun (length function.code))
    else true

-- ---- units

unfoldable pub is_sound : Unit → ℕ → Code → Bool
is_sound unit index function = is_split unit index function && has_depths unit index function

-- the functions from this index on are sound
abbrev pub are_sound : Unit → ℕ → List Code → Bool
are_sound unit index [] = true
are_sound unit index (function ∷ functions) =
    is_sound unit index function && are_sound unit (suc index) functions

-- the unit may be run
unfoldable pub may_run : Unit → Bool
may_run unit = is_none (stray_pragma unit) && are_sound unit 0 unit.functions

-- ---- faults

-- at a place the number of values doesn't fit: of such faults any may be named
abbrev pub is_of_depths : VerifyFault → Bool
is_of_depths (fault.Underflow function at) = true
is_of_depths (fault.Depths function at found other) = true
is_of_depths _ = false

-- two faults of a unit are the same, or both are such faults
abbrev pub AreAlike : VerifyFault → VerifyFault → Type 0
AreAlike one other =
    (one ≡ other) ⊎ ((is_of_depths one ≡ true) × (is_of_depths other ≡ true))
